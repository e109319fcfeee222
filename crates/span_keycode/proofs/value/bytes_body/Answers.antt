use Rattle.std.proofs.Common.{ℕ, List, ◌∷◌, sym, subst, drop}
use Rattle.std.proofs.lemmas.Option.{MatchOption-at_some, MatchOption-at_none}
use Rattle.span_value.specs.declared.value.Value.TheVariants.{Bytes}
use Rattle.span_value.specs.declared.value.Kind.TheVariants as kind
use Rattle.span_keycode.specs.Coding.{in_direction}
use Rattle.span_keycode.specs.Reads.{IsPlain}
use Rattle.span_keycode.proofs.Plains.{no_plain_bytes, text_read}
use Rattle.span_keycode.proofs.value.bytes_body.Goals as goal

pub returns-in-None-clause-found : goal.returns-in-None-clause-found
returns-in-None-clause-found c = no_plain_bytes _ (MatchOption-at_none _ _ c.in-None.is c.in_ok-read_text.ensures.ok)

pub returns-in-Some-clause-found : goal.returns-in-Some-clause-found
returns-in-Some-clause-found c =
    let d = c.args.desc in
    let text = MatchOption-at_some _ _ _ c.in-Some.is c.in_ok-read_text.ensures.ok in
    let within = MatchOption-at_some _ _ _ c.in-Some.is c.in_ok-read_text.ensures.within in
    let P : List ℕ → Type 0 = λ bs. IsPlain kind.Bytes (1 ∷ in_direction d c.args.rest.now) (Bytes bs) (in_direction d (drop c.in-Some.width c.args.rest.now)) in
    subst P (sym c.from_vec.ensures) (record { fits = within.1; code = text_read _ _ _ text })
