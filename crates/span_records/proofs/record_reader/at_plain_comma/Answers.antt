use Rattle.std.proofs.Common.{◌≡◌, ◌∙◌, ◌-◌, ◌<◌, ℕ, List, ◌∷◌, arith, sym, ap, subst, get_or, length, take}
use Rattle.std.proofs.lemmas.Str.{IsCharBoundary-after_ascii}
use Rattle.span_records.specs.Record.{pieces, IsFree, IsUnmarked}
use Rattle.span_records.proofs.Marks.{cut_free, cut_unmarked}
use Rattle.span_records.proofs.record_reader.at_plain_comma.Goals as goal

-- the search is one of the text
of_text : (text bytes : List ℕ) (at : ℕ) → bytes ≡ text → (at < length bytes) × IsFree bytes at → (at < length text) × IsFree text at
of_text text bytes at same found = subst (λ (w : List ℕ). (at < length w) × IsFree w at) same found

comma_of : (text bytes : List ℕ) (at : ℕ) → bytes ≡ text → get_or bytes at 0 ≡ 44 → get_or text at 0 ≡ 44
comma_of text bytes at same is = subst (λ (w : List ℕ). get_or w at 0 ≡ 44) same is

pub range_from-requires : goal.range_from-requires
range_from-requires c =
    let text = c.args.text.now in
    let at = c.in_ok-end.end in
    let found = of_text text c.as_bytes-bytes.result.now at c.as_bytes-bytes.ensures.value c.in_ok-end.ensures in
    let comma = comma_of text c.as_bytes-bytes.result.now at c.as_bytes-bytes.ensures.value c.if-bytes-end-ne44.false in
    λ _. IsCharBoundary-after_ascii text at c.utf8.text found.0 (omega (arith, comma))

pub returns-clause-cut : goal.returns-clause-cut
returns-clause-cut c =
    let text = c.args.text.now in
    let at = c.in_ok-end.end in
    let found = of_text text c.as_bytes-bytes.result.now at c.as_bytes-bytes.ensures.value c.in_ok-end.ensures in
    let comma = comma_of text c.as_bytes-bytes.result.now at c.as_bytes-bytes.ensures.value c.if-bytes-end-ne44.false in
    let whole : at - 0 ≡ at = omega arith in
    let front : c.range.result.now ≡ take at text = c.range.ensures.value ∙ ap (λ (n : ℕ). take n text) whole in
    cut_free text at found.0 comma found.1
    ∙ ap (λ (w : List ℕ). take at text ∷ pieces w) (sym c.range_from.ensures.value)
    ∙ ap (λ (w : List ℕ). w ∷ pieces c.range_from.result.now) (sym front)

pub returns-clause-unmarked : goal.returns-clause-unmarked
returns-clause-unmarked c =
    let text = c.args.text.now in
    let at = c.in_ok-end.end in
    let found = of_text text c.as_bytes-bytes.result.now at c.as_bytes-bytes.ensures.value c.in_ok-end.ensures in
    let comma = comma_of text c.as_bytes-bytes.result.now at c.as_bytes-bytes.ensures.value c.if-bytes-end-ne44.false in
    λ rest. cut_unmarked text at found.0 comma found.1 (subst IsUnmarked c.range_from.ensures.value rest)
