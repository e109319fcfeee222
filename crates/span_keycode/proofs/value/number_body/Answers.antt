use Rattle.std.proofs.Common.{◌≡◌, ℕ, ℤ, List, ◌∷◌, ◌++◌, rules, sym, ◌∙◌, ap, subst, drop}
use Rattle.std.specs.Prelude.{FitsSigned}
use Rattle.std.specs.Int.{to_be_bytes, w64}
use Rattle.std.proofs.lemmas.Int.{to_z-of_z}
use Rattle.span_value.specs.declared.value.Value.TheVariants.{Int}
use Rattle.span_value.specs.declared.value.Kind.TheVariants as kind
use Rattle.span_keycode.specs.Coding.{to_unsigned, in_direction}
use Rattle.span_keycode.specs.Reads.{IsPlain}
use Rattle.span_keycode.proofs.Eights.{number_spelled}
use Rattle.span_keycode.proofs.value.number_body.Goals as goal

pub returns-clause-found : goal.returns-clause-found
returns-clause-found c =
    let fits : FitsSigned w64 c.to_signed.result = search rules in
    let d = c.args.desc in
    let rest = in_direction d (drop 8 c.args.rest.now) in
    let spelled : c.first_eight.result ≡ to_be_bytes w64 (to_unsigned c.to_signed.result) =
    sym (number_spelled c.first_eight.result c.from_be_bytes.result c.first_eight.ensures.len c.first_eight.ensures.bytes c.from_be_bytes.ensures) ∙ ap (to_be_bytes w64) (sym c.to_signed.ensures) in
    let P : ℤ → Type 0 = λ z. IsPlain kind.Int (1 ∷ in_direction d c.args.rest.now) (Int z) rest in
    subst P (sym (to_z-of_z w64 c.to_signed.result fits)) (record {
      fits = fits;
      code = ap (λ (xs : List ℕ). 1 ∷ xs) (c.first_eight.ensures.code ∙ ap (λ (xs : List ℕ). xs ++ rest) spelled);
    })
