-- What is left of lists that are in order, cut into ranges of this order.
use Rattle.std.proofs.Common.{◌≡◌, refl, sym, ap, subst, arith, ◌∙◌, ℕ, suc, ◌<◌, Bool, List, [], ◌∷◌, ◌++◌, append_assoc, drop, filter, flat_map, length, get_or, take, Result, Ok, Err}
use Rattle.std.specs.Prelude.{Vec}
use Rattle.std.specs.declared.alloc.AllocError.{AllocError}
use Rattle.std.specs.declared.alloc.Global.{Global}
use Rattle.std.specs.List.{AllByRecursion}
use Rattle.std.proofs.lemmas.List.{drop-map, get_or-map, length-map, map-append, take-map}
use Rattle.span_value.proofs.Lists.{all_append, all_drop, all_take}
use Rattle.span_query.specs.declared.query.SortKey.{SortKey}
use Rattle.span_query.specs.Rows.{Row}
use Rattle.span_query.specs.Sorting.{comes_before, sorted}
use Rattle.span_rows.specs.RowPlaces.{rows_at}
use Rattle.span_merging.specs.declared.parts.PartPlace.{PartPlace}
use Rattle.span_merging.specs.declared.parts.PartRest.{PartRest}
use Rattle.span_merging.specs.declared.parts.PartRests.{PartRests}
use Rattle.span_sorting.specs.declared.placed.CodedPlace.{CodedPlace}
use Rattle.span_sorting.specs.Orders.{IsSorted}
use Rattle.span_merging.specs.PartPlaces.{IsPlaceIn, joined, row_in, rows_in}
use Rattle.span_merging.specs.PartRanges.{AreRestsWhere, AreRangesMerged, AreRangesOf, IsRestWhere, IsRangeOf, is_before_boundary, is_from_boundary, rows_of_range, rows_of_ranges}
use Rattle.span_merging.specs.PartRests.{AreRestsMerged, IsRest, lists_of_rests, rest_rows, rows_of_rests}
use Rattle.span_sorting.specs.PlacesInOrder.{IsCodedPlace, without_codes}
use Rattle.span_merging.proofs.Cutting.{filter_lists, filter_sorted, sorted_cut}
use Rattle.span_sorting.proofs.RowOrder.{rows_ranked}

-- ---- the rows that are left of a list

pub rows_left : (r : PartRest) → length (rest_rows r) ≡ length r.places.now
rows_left r = length-map (without_codes r.places.now) (λ (place : ℕ). get_or r.rows.now place []) ∙ length-map r.places.now (λ (x : CodedPlace). x.place)

pub row_left : (r : PartRest) (m : ℕ) (d : CodedPlace) → m < length r.places.now → get_or (rest_rows r) m [] ≡ get_or r.rows.now (get_or r.places.now m d).place []
row_left r m d within =
    get_or-map (λ (place : ℕ). get_or r.rows.now place []) (without_codes r.places.now) m 0 []
    (subst (λ (n : ℕ). m < n) (sym (length-map r.places.now (λ (x : CodedPlace). x.place))) within)
    ∙ ap (λ (n : ℕ). get_or r.rows.now n []) (get_or-map (λ (x : CodedPlace). x.place) r.places.now m d 0 within)

module _ (keys : List SortKey) (exact : Bool) (test : Row → Bool) (r cut : PartRest) (m : ℕ) (same : cut.rows.now ≡ r.rows.now) (is : IsRest keys exact r) where
  cut_is : AllByRecursion (IsCodedPlace r.rows.now keys exact) cut.places.now → rest_rows cut ≡ filter test (rest_rows r) → IsRestWhere keys exact test r cut
  cut_is coded rows = record {
    list = same;
    is = record {
      coded = subst (λ (l : List Row). AllByRecursion (IsCodedPlace l keys exact) cut.places.now) (sym same) coded;
      order = subst (IsSorted (comes_before keys)) (sym rows) (filter_sorted (comes_before keys) test (rest_rows r) is.order);
    };
    rows = rows;
  }

  pub front_cut : cut.places.now ≡ take m r.places.now → take m (rest_rows r) ≡ filter test (rest_rows r) → IsRestWhere keys exact test r cut
  front_cut places rows =
      cut_is (subst (AllByRecursion (IsCodedPlace r.rows.now keys exact)) (sym places) (all_take (IsCodedPlace r.rows.now keys exact) m r.places.now is.coded))
      (ap (λ (l : List Row). rows_at l (without_codes cut.places.now)) same
      ∙ ap (λ (l : List CodedPlace). rows_at r.rows.now (without_codes l)) places
      ∙ ap (rows_at r.rows.now) (sym (take-map (λ (x : CodedPlace). x.place) m r.places.now))
      ∙ sym (take-map (λ (place : ℕ). get_or r.rows.now place []) m (without_codes r.places.now))
      ∙ rows)

  pub back_cut : cut.places.now ≡ drop m r.places.now → drop m (rest_rows r) ≡ filter test (rest_rows r) → IsRestWhere keys exact test r cut
  back_cut places rows =
      cut_is (subst (AllByRecursion (IsCodedPlace r.rows.now keys exact)) (sym places) (all_drop (IsCodedPlace r.rows.now keys exact) m r.places.now is.coded))
      (ap (λ (l : List Row). rows_at l (without_codes cut.places.now)) same
      ∙ ap (λ (l : List CodedPlace). rows_at r.rows.now (without_codes l)) places
      ∙ ap (rows_at r.rows.now) (sym (drop-map (λ (x : CodedPlace). x.place) m r.places.now))
      ∙ sym (drop-map (λ (place : ℕ). get_or r.rows.now place []) m (without_codes r.places.now))
      ∙ rows)

-- ---- lists

pub sorted_at_cut : (keys : List SortKey) (exact : Bool) (boundary : Row) (rests before from : List PartRest)
    → AreRestsWhere keys exact (is_before_boundary keys boundary) rests before → AreRestsWhere keys exact (is_from_boundary keys boundary) rests from
    → sorted keys (joined (rows_of_rests rests)) ≡ sorted keys (joined (rows_of_rests before)) ++ sorted keys (joined (rows_of_rests from))
sorted_at_cut keys exact boundary rests before from below others =
    let rows : List (List Row) = rows_of_rests rests in
    sorted_cut (comes_before keys) (rows_ranked keys) boundary (joined rows)
    ∙ ap (λ (l : List Row). sorted keys l ++ sorted keys (filter (is_from_boundary keys boundary) (joined rows)))
    (sym (ap joined below.rows ∙ filter_lists (is_before_boundary keys boundary) rows))
    ∙ ap (λ (l : List Row). sorted keys (joined (rows_of_rests before)) ++ sorted keys l)
    (sym (ap joined others.rows ∙ filter_lists (is_from_boundary keys boundary) rows))

-- ---- ranges

pub ranges_more : (keys : List SortKey) (ranges : List PartRests) (range : PartRests) (rest : List Row)
    → rows_of_ranges keys (ranges ++ range ∷ []) ++ rest ≡ rows_of_ranges keys ranges ++ (rows_of_range keys range ++ rest)
ranges_more keys [] range rest = append_assoc (rows_of_range keys range) [] rest
ranges_more keys (r ∷ ranges) range rest =
    append_assoc (rows_of_range keys r) (rows_of_ranges keys (ranges ++ range ∷ [])) rest
    ∙ ap (λ (l : List Row). rows_of_range keys r ++ l) (ranges_more keys ranges range rest)
    ∙ sym (append_assoc (rows_of_range keys r) (rows_of_ranges keys ranges) (rows_of_range keys range ++ rest))

-- ---- the places of the rows of ranges

abbrev pub places_made : Result (Vec PartPlace Global) AllocError → List PartPlace
places_made (Ok places) = places.items
places_made (Err why) = []

abbrev pub WasMade : Result (Vec PartPlace Global) AllocError → Type 0
WasMade (Ok places) = Unit {0}
WasMade (Err why) = ⊥

record AreJoined (keys : List SortKey) (rests : List PartRest) (ranges : List PartRests) (places : List PartPlace) : Type 0 where
  within : AllByRecursion (IsPlaceIn (lists_of_rests rests)) places
  rows : rows_in (lists_of_rests rests) places ≡ rows_of_ranges keys ranges

all_joined : (keys : List SortKey) (rests : List PartRest) (ranges : List PartRests) (made : List (Result (Vec PartPlace Global) AllocError))
    → AllByRecursion (IsRangeOf keys rests) ranges → AreRangesMerged keys ranges made → AllByRecursion WasMade made
    → AreJoined keys rests ranges (flat_map places_made made)
all_joined keys rests [] [] are merged ok = record { within = tt; rows = refl }
all_joined keys rests [] (m ∷ made) are merged ok = absurd (omega (arith, merged.counted))
all_joined keys rests (range ∷ ranges) [] are merged ok = absurd (omega (arith, merged.counted))
all_joined keys rests (range ∷ ranges) (Err why ∷ made) are merged ok = absurd ok.0
all_joined keys rests (range ∷ ranges) (Ok places ∷ made) are merged ok =
    let lists : List (List Row) = lists_of_rests rests in
    let mine : AreRestsMerged keys range.rests.items places.items = merged.each 0 (Ok places) range (omega arith) in
    let more : AreJoined keys rests ranges (flat_map places_made made) =
    all_joined keys rests ranges made are.1 (record { counted = omega (arith, merged.counted); each = λ at d e below. merged.each (suc at) d e (omega (arith, below)) }) ok.1 in
    record {
      within = all_append (IsPlaceIn lists) places.items (flat_map places_made made)
          (subst (λ (l : List (List Row)). AllByRecursion (IsPlaceIn l) places.items) are.0.lists mine.within) more.within;
      rows = map-append (row_in lists) places.items (flat_map places_made made)
          ∙ ap (λ (l : List (List Row)). rows_in l places.items ++ rows_in lists (flat_map places_made made)) (sym are.0.lists)
          ∙ ap (λ (l : List Row). l ++ rows_in lists (flat_map places_made made)) mine.rows
          ∙ ap (λ (l : List Row). rows_of_range keys range ++ l) more.rows;
    }

-- the places of the rows of all ranges, one range after another
pub ranges_joined : (keys : List SortKey) (rests : List PartRest) (ranges : List PartRests) (made : List (Result (Vec PartPlace Global) AllocError))
    → AreRangesOf keys rests ranges → AreRangesMerged keys ranges made → AllByRecursion WasMade made → AreRestsMerged keys rests (flat_map places_made made)
ranges_joined keys rests ranges made are merged ok =
    let all : AreJoined keys rests ranges (flat_map places_made made) = all_joined keys rests ranges made are.are merged ok in
    record { within = all.within; rows = all.rows ∙ sym are.rows }
