-- Rows of a list with their codes and their places, in order.
use Rattle.std.proofs.Common.{◌≡◌, refl, sym, ap, subst, arith, ◌∙◌, ℕ, zero, suc, ◌+◌, ◌-◌, ◌<◌, drop, Bool, true, false, ◌&&◌, List, [], ◌∷◌, ◌++◌, Option, Some, None, length, map, get_or, take}
use Rattle.std.specs.Cmp.{IsStrictWeakOrder}
use Rattle.std.specs.List.{All, AllByRecursion}
use Rattle.std.proofs.lemmas.Bool.{and_parts}
use Rattle.std.proofs.lemmas.List.{map_push}
use Rattle.std.proofs.lemmas.List.Elements.{All-from_recursion}
use Rattle.std.proofs.lemmas.List.MinMax.{ranks_by}
use Rattle.std.specs.Prelude.{slice_get}
use Rattle.span_value.proofs.Lists.{all_found_at}
use Rattle.span_query.specs.declared.query.SortKey.{SortKey}
use Rattle.span_query.specs.Rows.{Row}
use Rattle.span_query.specs.Sorting.{comes_before, insert_sorted, insertion_sort, sorted}
use Rattle.span_sorting.specs.declared.coded.CodedRow.{CodedRow}
use Rattle.span_sorting.specs.declared.placed.CodedPlace.{CodedPlace}
use Rattle.span_sorting.specs.declared.placed.PlacedRow.{PlacedRow}
use Rattle.span_sorting.specs.Codes.{AreInRange, IsFirstInRange, IsCoded, IsCodedAs, are_exact, code_before, first_code, second_code, uncoded}
use Rattle.span_rows.specs.RowPlaces.{rows_at}
use Rattle.span_sorting.specs.Orders.{IsSorted, take_first}
use Rattle.span_sorting.specs.PlacesInOrder.{AreFirst, ArePlacesBy, EndsBelow, IsCodedPlace, IsPlaced, coded_place, placed_before, without_codes, without_places}
use Rattle.span_sorting.proofs.FirstRows.{first_in_order, first_of_inserted, put_beyond}
use Rattle.span_sorting.proofs.RowOrder.{rows_ranked}
use Rattle.span_sorting.proofs.CodedRows.{code_total, first_decides_alone, first_in_range, uncoded_more, uncoded_inserted, uncoded_in_order}
use Rattle.span_sorting.proofs.Sorting.{all_in_order, inserted_map, sorted_map}

abbrev pub coded_places : List PlacedRow → List CodedPlace
coded_places xs = map coded_place xs

-- ---- the rows so far

pub unplaced_more : (xs : List PlacedRow) (x : PlacedRow) → uncoded (without_places (xs ++ x ∷ [])) ≡ uncoded (without_places xs) ++ x.coded.row.now ∷ []
unplaced_more xs x = ap uncoded (map_push (λ (y : PlacedRow). y.coded) xs x) ∙ uncoded_more (without_places xs) x.coded

module _ (rows : List Row) (keys : List SortKey) where
  pub placed_more : (exact both : Bool) (xs : List PlacedRow) (x : PlacedRow) → AllByRecursion (IsPlaced rows keys exact) xs
      → IsCoded keys x.coded → x.coded.row.now ≡ get_or rows x.place [] → x.place < length rows → both ≡ (exact && are_exact keys x.coded.row.now)
      → AllByRecursion (IsPlaced rows keys both) (xs ++ x ∷ [])
  placed_more exact both [] x all coded row within is = (
    record {
      coded = record { coded = coded; ties = λ e. (and_parts exact (are_exact keys x.coded.row.now) (sym is ∙ e)).1 };
      row = row;
      within = within;
    },
    tt,
  )
  placed_more exact both (y ∷ xs) x all coded row within is = (
    record {
      coded = record { coded = all.0.coded.coded; ties = λ e. all.0.coded.ties (and_parts exact (are_exact keys x.coded.row.now) (sym is ∙ e)).0 };
      row = all.0.row;
      within = all.0.within;
    },
    placed_more exact both xs x all.1 coded row within is,
  )

  -- ---- in order

  module _ (exact : Bool) where
    all_coded : (xs : List PlacedRow) → AllByRecursion (IsPlaced rows keys exact) xs → AllByRecursion (IsCodedAs keys exact) (without_places xs)
    all_coded [] all = tt
    all_coded (x ∷ xs) all = (all.0.coded, all_coded xs all.1)

    at_places : (xs : List PlacedRow) → AllByRecursion (IsPlaced rows keys exact) xs → rows_at rows (without_codes (coded_places xs)) ≡ uncoded (without_places xs)
    at_places [] all = refl
    at_places (x ∷ xs) all =
        ap (λ (r : Row). r ∷ rows_at rows (without_codes (coded_places xs))) (sym all.0.row)
        ∙ ap (λ (l : List Row). x.coded.row.now ∷ l) (at_places xs all.1)

    place_is_coded : (x : PlacedRow) → IsPlaced rows keys exact x → IsCodedPlace rows keys exact (coded_place x)
    place_is_coded x is = record {
      within = is.within;
      first = is.coded.coded.first ∙ ap (first_code keys) is.row;
      second = is.coded.coded.second ∙ ap (second_code keys) is.row;
      range = subst (AreInRange keys) is.row is.coded.coded.range;
      ties = λ e. ap (are_exact keys) (sym is.row) ∙ is.coded.ties e;
    }

    places_coded : (xs : List PlacedRow) → AllByRecursion (IsPlaced rows keys exact) xs → AllByRecursion (IsCodedPlace rows keys exact) (coded_places xs)
    places_coded [] all = tt
    places_coded (x ∷ xs) all = (place_is_coded x all.0, places_coded xs all.1)

    -- the places of rows that are the first in the order of the keys, or all
    pub are_places : (count : Option ℕ) (xs : List PlacedRow) → AllByRecursion (IsPlaced rows keys exact) xs
        → uncoded (without_places xs) ≡ take_first count (sorted keys rows) → ArePlacesBy keys count rows exact (coded_places xs)
    are_places count xs all is = record {
      coded = places_coded xs all;
      sorted = at_places xs all ∙ is;
    }

    -- the places of rows in the order of their codes are in the order of the keys
    pub places_in_order : (xs ys : List PlacedRow) → AllByRecursion (IsPlaced rows keys exact) xs → uncoded (without_places xs) ≡ rows
        → ys ≡ insertion_sort (λ (x y : PlacedRow). code_before keys exact x.coded y.coded) xs → ArePlacesBy keys None rows exact (coded_places ys)
    places_in_order xs ys all whole is =
        let lt : PlacedRow → PlacedRow → Bool = λ x y. code_before keys exact x.coded y.coded in
        let placed : AllByRecursion (IsPlaced rows keys exact) ys = subst (AllByRecursion (IsPlaced rows keys exact)) (sym is) (all_in_order lt (IsPlaced rows keys exact) xs all) in
        are_places None ys placed
        (ap (λ (l : List PlacedRow). uncoded (without_places l)) is
        ∙ ap uncoded (sym (sorted_map (λ (x : PlacedRow). x.coded) (code_before keys exact) lt (λ x y. refl) xs))
        ∙ uncoded_in_order keys exact (without_places xs) (all_coded xs all)
        ∙ ap (sorted keys) whole)

  -- ---- one more among the first

  pub unplaced_inserted : (x : PlacedRow) (ys : List PlacedRow) → IsPlaced rows keys false x → AllByRecursion (IsPlaced rows keys false) ys
      → uncoded (without_places (insert_sorted (placed_before keys) x ys)) ≡ insert_sorted (comes_before keys) x.coded.row.now (uncoded (without_places ys))
  unplaced_inserted x ys is all =
      ap uncoded (sym (inserted_map (λ (y : PlacedRow). y.coded) (code_before keys false) (placed_before keys) (λ y z. refl) x ys))
      ∙ uncoded_inserted keys false x.coded (without_places ys) is.coded (all_coded false ys all)

pub placed_ranked : (keys : List SortKey) → IsStrictWeakOrder (placed_before keys)
placed_ranked keys = ranks_by (code_total keys false) (λ (x : PlacedRow). x.coded)

pub unplaced_first : (count : ℕ) (xs : List PlacedRow) → uncoded (without_places (take count xs)) ≡ take count (uncoded (without_places xs))
unplaced_first zero xs = refl
unplaced_first (suc count) [] = refl
unplaced_first (suc count) (x ∷ xs) = ap (λ (l : List Row). x.coded.row.now ∷ l) (unplaced_first count xs)

-- ---- a row beyond the first

unplaced_count : (xs : List PlacedRow) → length (uncoded (without_places xs)) ≡ length xs
unplaced_count [] = refl
unplaced_count (x ∷ xs) = ap suc (unplaced_count xs)

unplaced_found : (xs : List PlacedRow) (k : ℕ) (x : PlacedRow) → slice_get xs k ≡ Some x → slice_get (uncoded (without_places xs)) k ≡ Some x.coded.row.now
unplaced_found [] k x e = cc
unplaced_found (y ∷ xs) zero x e = let same : y ≡ x = cc in ap (λ (z : PlacedRow). Some z.coded.row.now) same
unplaced_found (y ∷ xs) (suc k) x e = unplaced_found xs k x e

module _ (keys : List SortKey) (count : ℕ) (rows : List Row) where
  pub beyond_first : (at : ℕ) (xs : List PlacedRow) (row : Row) (code : ℕ) → drop at rows ≡ row ∷ drop (at + 1) rows → code ≡ first_code keys row → IsFirstInRange keys row
      → EndsBelow count code xs → AreFirst keys count rows (at + 1) xs → AreFirst keys count rows at xs
  beyond_first at xs row code rest is range ends are =
      let before : Row → Row → Bool = comes_before keys in
      let all : List Row = uncoded (without_places xs) in
      let last : PlacedRow = ends.1 in
      let others : List Row = sorted keys (drop (at + 1) rows) in
      let long : count ≡ length all = ends.0 ∙ sym (unplaced_count xs) in
      let found : slice_get all (length all - 1) ≡ Some last.coded.row.now =
      ap (λ (n : ℕ). slice_get all (n - 1)) (unplaced_count xs) ∙ unplaced_found xs (length xs - 1) last ends.2 in
      let placed : IsPlaced rows keys false last = all_found_at (IsPlaced rows keys false) xs (length xs - 1) last ends.2 are.placed in
      let less : first_code keys last.coded.row.now < first_code keys row = omega (arith, ends.3, placed.coded.coded.first, is) in
      let after : before last.coded.row.now row ≡ true =
      first_decides_alone keys last.coded.row.now row (first_in_range keys last.coded.row.now placed.coded.coded.range) range less in
      let up : IsSorted before all = subst (IsSorted before) (sym are.first) (first_in_order before (rows_ranked keys) count (drop (at + 1) rows)) in
      record {
        few = are.few;
        order = are.order;
        placed = are.placed;
        first = sym (put_beyond before (rows_ranked keys) count all last.coded.row.now row long found up after)
            ∙ ap (λ (l : List Row). take count (insert_sorted before row l)) are.first
            ∙ first_of_inserted before count row others
            ∙ ap (λ (l : List Row). take count (sorted keys l)) (sym rest);
      }

-- ---- rows lent at places

module _ (rows : List Row) (keys : List SortKey) (exact : Bool) where
  -- the row at a place, with the codes of the place
  pub lent_coded : (p : CodedPlace) (x : CodedRow) → IsCodedPlace rows keys exact p
      → x.row.now ≡ get_or rows p.place [] → x.first ≡ p.first → x.second ≡ p.second → IsCodedAs keys exact x
  lent_coded p x is row first second = record {
    coded = record {
      first = first ∙ is.first ∙ ap (first_code keys) (sym row);
      second = second ∙ is.second ∙ ap (second_code keys) (sym row);
      range = subst (AreInRange keys) (sym row) is.range;
    };
    ties = λ e. ap (are_exact keys) row ∙ is.ties e;
  }

  places_within : (places : List CodedPlace) → AllByRecursion (IsCodedPlace rows keys exact) places → AllByRecursion (λ (x : CodedPlace). x.place < length rows) places
  places_within [] all = tt
  places_within (x ∷ xs) all = (all.0.within, places_within xs all.1)

  pub all_within : (places : List CodedPlace) → AllByRecursion (IsCodedPlace rows keys exact) places → All (λ (x : CodedPlace). x.place < length rows) places
  all_within places all = All-from_recursion (λ (x : CodedPlace). x.place < length rows) places (places_within places all)

-- where exact codes are asked of fewer
pub coded_weaker : (keys : List SortKey) (exact both : Bool) (xs : List CodedRow) → (both ≡ true → exact ≡ true)
    → AllByRecursion (IsCodedAs keys exact) xs → AllByRecursion (IsCodedAs keys both) xs
coded_weaker keys exact both [] less all = tt
coded_weaker keys exact both (x ∷ xs) less all =
    (record { coded = all.0.coded; ties = λ e. all.0.ties (less e) }, coded_weaker keys exact both xs less all.1)

place_is_weaker : (rows : List Row) (keys : List SortKey) (exact both : Bool) (x : CodedPlace) → (both ≡ true → exact ≡ true)
    → IsCodedPlace rows keys exact x → IsCodedPlace rows keys both x
place_is_weaker rows keys exact both x less is =
    record { within = is.within; first = is.first; second = is.second; range = is.range; ties = λ e. is.ties (less e) }

pub places_weaker : (rows : List Row) (keys : List SortKey) (exact both : Bool) (xs : List CodedPlace) → (both ≡ true → exact ≡ true)
    → AllByRecursion (IsCodedPlace rows keys exact) xs → AllByRecursion (IsCodedPlace rows keys both) xs
places_weaker rows keys exact both [] less all = tt
places_weaker rows keys exact both (x ∷ xs) less all =
    (place_is_weaker rows keys exact both x less all.0, places_weaker rows keys exact both xs less all.1)
