use Rattle.std.proofs.Common.{◌≡◌, ℕ, ℤ, List, ◌∷◌, ◌++◌, arith, rules, sym, ◌∙◌, ap, subst, drop}
use Rattle.std.specs.Prelude.{FitsSigned}
use Rattle.std.specs.Int.{to_be_bytes, from_be_bytes, cast_unsigned, w64}
use Rattle.std.proofs.lemmas.Int.{to_z-of_z, of_z-to_z}
use Rattle.span_value.specs.declared.value.Value.TheVariants.{Int}
use Rattle.span_value.specs.declared.value.Kind.TheVariants as kind
use Rattle.span_rowcode.specs.Cells.{IsBody}
use Rattle.span_rowcode.proofs.RowReads.{are_bytes, eight_read}
use Rattle.span_celltests.proofs.number_test.eight_at.Goals as goal

pub returns : goal.returns
returns c =
    let bs = c.args.rest.now in
    let fits : FitsSigned w64 c.cast_signed.result = search rules in
    let are = are_bytes bs (λ i. let f = c.type_inv.rest i in omega arith) in
    let n = c.from_be_bytes.result in
    let read : bs ≡ to_be_bytes w64 n ++ drop 8 bs = eight_read bs n (omega (arith, c.in-Some.ensures.cases.2)) are (c.from_be_bytes.ensures ∙ ap (from_be_bytes w64) c.in-Some.ensures.cases.0) in
    let bits : cast_unsigned w64 c.cast_signed.result ≡ n = ap (cast_unsigned w64) c.cast_signed.ensures ∙ of_z-to_z w64 n c.from_be_bytes.type_inv in
    let P : ℤ → Type 0 = λ z. IsBody kind.Int bs (Int z) 8 in
    subst P (sym (to_z-of_z w64 c.cast_signed.result fits)) (record {
      fits = fits;
      code = ap (λ (xs : List ℕ). 1 ∷ xs) (read ∙ ap (λ (m : ℕ). to_be_bytes w64 m ++ drop 8 bs) (sym bits));
      within = omega (arith, c.in-Some.ensures.cases.2);
    })
