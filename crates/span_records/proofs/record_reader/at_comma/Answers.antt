use Rattle.std.proofs.Common.{◌≡◌, ◌∙◌, ◌-◌, ℕ, List, ◌∷◌, arith, sym, ap, subst, get_or, take, Option, Some, None}
use Rattle.std.proofs.lemmas.Bool.{eqb-true}
use Rattle.std.proofs.lemmas.Str.{IsCharBoundary-after_ascii}
use Rattle.memchr.specs.Find.{IsFirstByte, is_byte}
use Rattle.span_records.specs.Record.{pieces}
use Rattle.span_records.proofs.Commas.{no_comma, first_comma}
use Rattle.span_records.proofs.record_reader.at_comma.Goals as goal

-- the search is one of the text
of_text : (text bytes : List ℕ) (r s : Option ℕ) → bytes ≡ text → r ≡ s → IsFirstByte (is_byte 44) bytes r → IsFirstByte (is_byte 44) text s
of_text text bytes r s same is found = subst (IsFirstByte (is_byte 44) text) is (subst (λ (w : List ℕ). IsFirstByte (is_byte 44) w r) same found)

pub returns-in_err-at-clause-cut : goal.returns-in_err-at-clause-cut
returns-in_err-at-clause-cut c =
    rw c.from_residual.ensures (no_comma c.args.text.now (of_text c.args.text.now c.as_bytes.result.now c.memchr.result None c.as_bytes.ensures.value c.in_err-at.was c.memchr.ensures))

pub range_from-requires : goal.range_from-requires
range_from-requires c =
    let text = c.args.text.now in
    let found = of_text text c.as_bytes.result.now c.memchr.result (Some c.in_ok-at.at) c.as_bytes.ensures.value c.in_ok-at.was c.memchr.ensures in
    let comma : get_or text c.in_ok-at.at 0 ≡ 44 = eqb-true (get_or text c.in_ok-at.at 0) 44 found.1 in
    λ _. IsCharBoundary-after_ascii text c.in_ok-at.at c.utf8.text found.0.high (omega (arith, comma))

pub returns-clause-cut : goal.returns-clause-cut
returns-clause-cut c =
    let text = c.args.text.now in
    let at = c.in_ok-at.at in
    let found = of_text text c.as_bytes.result.now c.memchr.result (Some at) c.as_bytes.ensures.value c.in_ok-at.was c.memchr.ensures in
    let end : at - 0 ≡ at = omega arith in
    let front : c.range.result.now ≡ take at text = c.range.ensures.value ∙ ap (λ (n : ℕ). take n text) end in
    first_comma text at found.0.high found.1 found.0.before
    ∙ ap (λ (w : List ℕ). take at text ∷ pieces w) (sym c.range_from.ensures.value)
    ∙ ap (λ (w : List ℕ). w ∷ pieces c.range_from.result.now) (sym front)
