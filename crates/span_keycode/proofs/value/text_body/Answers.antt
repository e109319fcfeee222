use Rattle.std.proofs.Common.{◌≡◌, ℕ, List, ◌∷◌, sym, ◌∙◌, ap, subst, drop, true, false}
use Rattle.std.specs.String.{string_bytes}
use Rattle.std.specs.Str.{IsUtf8}
use Rattle.std.proofs.lemmas.Str.{IsUtf8-string_bytes}
use Rattle.std.proofs.lemmas.Option.{MatchOption-at_some, MatchOption-at_none}
use Rattle.span_value.specs.declared.value.Value.TheVariants.{Str}
use Rattle.span_value.specs.declared.value.Kind.TheVariants as kind
use Rattle.span_keycode.specs.Coding.{in_direction}
use Rattle.span_keycode.specs.Reads.{IsPlain}
use Rattle.span_keycode.proofs.Plains.{no_plain_text, no_plain_utf8, text_read}
use Rattle.span_keycode.proofs.value.text_body.Goals as goal

pub returns-in-None-clause-found : goal.returns-in-None-clause-found
returns-in-None-clause-found c = no_plain_text _ (MatchOption-at_none _ _ c.in-None.is c.in_ok-read_text.ensures.ok)

pub returns-in-Err-clause-found : goal.returns-in-Err-clause-found
returns-in-Err-clause-found c =
    let text = MatchOption-at_some _ _ _ c.in-Some.is c.in_ok-read_text.ensures.ok in
    no_plain_utf8 _ _ _ text (λ utf8. let e : false ≡ true = c.in-Err.ensures.succeeds utf8 in cc)

pub returns-in-Ok-clause-found : goal.returns-in-Ok-clause-found
returns-in-Ok-clause-found c =
    let text = MatchOption-at_some _ _ _ c.in-Some.is c.in_ok-read_text.ensures.ok in
    let within = MatchOption-at_some _ _ _ c.in-Some.is c.in_ok-read_text.ensures.within in
    let d = c.args.desc in
    let same : string_bytes c.in-Ok.text ≡ c.in-Some.bytes.items = ap (λ v. v.items) c.in-Ok.ensures.ok in
    let P : List ℕ → Type 0 = λ bs. IsPlain kind.Str (1 ∷ in_direction d c.args.rest.now) (Str bs) (in_direction d (drop c.in-Some.width c.args.rest.now)) in
    let Q : List ℕ → Type 0 = IsUtf8 in
    subst P (sym (c.from_string.ensures ∙ same)) (record { fits = (subst Q same (IsUtf8-string_bytes c.in-Ok.text), within.1); code = text_read _ _ _ text })
