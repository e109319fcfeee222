-- Rows that lie in a list one after another, with their codes: each has the next place there.
use Rattle.std.proofs.Common.{◌≡◌, refl, sym, ap, subst, arith, ◌∙◌, ℕ, ◌+◌, ◌<◌, Bool, List, [], ◌∷◌, ◌++◌, None, append_assoc, length, length-append, get_or}
use Rattle.std.specs.List.{AllByRecursion}
use Rattle.std.proofs.Math.Seq.{get_or-append_seam}
use Rattle.span_query.specs.declared.query.SortKey.{SortKey}
use Rattle.span_query.specs.Rows.{Row}
use Rattle.span_query.specs.Sorting.{comes_before, sorted}
use Rattle.span_rows.specs.RowPlaces.{rows_at}
use Rattle.span_sorting.specs.declared.coded.CodedRow.{CodedRow}
use Rattle.span_sorting.specs.declared.placed.CodedPlace.{CodedPlace}
use Rattle.span_sorting.specs.Codes.{AreInRange, IsCodedAs, are_exact, first_code, second_code, uncoded}
use Rattle.span_sorting.specs.PlacesInOrder.{ArePlacesBy, IsCodedPlace, places_from, without_codes}
use Rattle.span_sorting.proofs.RowOrder.{rows_ranked}
use Rattle.span_sorting.proofs.Sorting.{sorted_again}

-- the row after some others
here : (front : List Row) (r : Row) (rest : List Row) (at : ℕ) → at ≡ length front → get_or (front ++ r ∷ rest) at [] ≡ r
here front r rest at is = ap (λ (n : ℕ). get_or (front ++ r ∷ rest) n []) is ∙ get_or-append_seam front r rest []

within : (front : List Row) (r : Row) (rest : List Row) (at : ℕ) → at ≡ length front → at < length (front ++ r ∷ rest)
within front r rest at is = grind (arith, length-append, is)

next : (front : List Row) (r : Row) (at : ℕ) → at ≡ length front → at + 1 ≡ length (front ++ r ∷ [])
next front r at is = grind (arith, length-append, is)

rows_in_turn : (front : List Row) (xs : List CodedRow) (at : ℕ) → at ≡ length front → rows_at (front ++ uncoded xs) (without_codes (places_from at xs)) ≡ uncoded xs
rows_in_turn front [] at is = refl
rows_in_turn front (x ∷ xs) at is =
    let r : Row = x.row.now in
    let rest : List CodedPlace = places_from (at + 1) xs in
    ap (λ (s : Row). s ∷ rows_at (front ++ r ∷ uncoded xs) (without_codes rest)) (here front r (uncoded xs) at is)
    ∙ ap (λ (l : List Row). r ∷ rows_at l (without_codes rest)) (sym (append_assoc front (r ∷ []) (uncoded xs)))
    ∙ ap (λ (l : List Row). r ∷ l) (rows_in_turn (front ++ r ∷ []) xs (at + 1) (next front r at is))

module _ (keys : List SortKey) (exact : Bool) where
  coded_in_turn : (front : List Row) (xs : List CodedRow) (at : ℕ) → at ≡ length front → AllByRecursion (IsCodedAs keys exact) xs
      → AllByRecursion (IsCodedPlace (front ++ uncoded xs) keys exact) (places_from at xs)
  coded_in_turn front [] at is all = tt
  coded_in_turn front (x ∷ xs) at is all =
      let r : Row = x.row.now in
      let same : r ≡ get_or (front ++ r ∷ uncoded xs) at [] = sym (here front r (uncoded xs) at is) in (
        record {
          within = within front r (uncoded xs) at is;
          first = all.0.coded.first ∙ ap (first_code keys) same;
          second = all.0.coded.second ∙ ap (second_code keys) same;
          range = subst (AreInRange keys) same all.0.coded.range;
          ties = λ e. ap (are_exact keys) (sym same) ∙ all.0.ties e;
        },
        subst (λ (l : List Row). AllByRecursion (IsCodedPlace l keys exact) (places_from (at + 1) xs)) (append_assoc front (r ∷ []) (uncoded xs))
            (coded_in_turn (front ++ r ∷ []) xs (at + 1) (next front r at is) all.1),
      )

  -- the places of rows in order in a list of them alone
  pub in_turn : (xs : List CodedRow) (rows : List Row) → uncoded xs ≡ sorted keys rows → AllByRecursion (IsCodedAs keys exact) xs
      → ArePlacesBy keys None (uncoded xs) exact (places_from 0 xs)
  in_turn xs rows is all = record {
    coded = coded_in_turn [] xs 0 refl all;
    sorted = rows_in_turn [] xs 0 refl ∙ is ∙ sym (sorted_again (comes_before keys) (rows_ranked keys) rows) ∙ ap (sorted keys) (sym is);
  }
