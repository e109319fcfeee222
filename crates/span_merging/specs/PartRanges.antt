-- What is left of lists that are in order, cut into ranges of this order.
use Rattle.std.specs.Prelude.{◌≡◌, ℕ, ◌<◌, Bool, not, List, Result, IfOk, Vec, filter, flat_map, length, map, slice_index_or}
use Rattle.std.specs.declared.alloc.AllocError.{AllocError}
use Rattle.std.specs.declared.alloc.Global.{Global}
use Rattle.std.specs.List.{AllByRecursion}
use Rattle.span_query.specs.declared.query.SortKey.{SortKey}
use Rattle.span_query.specs.Rows.{Row}
use Rattle.span_query.specs.Sorting.{comes_before, sorted}
use Rattle.span_merging.specs.declared.parts.PartPlace.{PartPlace}
use Rattle.span_merging.specs.declared.parts.PartRest.{PartRest}
use Rattle.span_merging.specs.declared.parts.PartRests.{PartRests}
use Rattle.span_merging.specs.PartPlaces.{joined}
use Rattle.span_merging.specs.PartRests.{AreRestsMerged, IsRest, lists_of_rests, rest_rows, rows_of_rests}

-- whether a row comes before the one at a boundary
abbrev pub is_before_boundary : List SortKey → Row → Row → Bool
is_before_boundary keys boundary row = comes_before keys row boundary

abbrev pub is_from_boundary : List SortKey → Row → Row → Bool
is_from_boundary keys boundary row = not (comes_before keys row boundary)

-- of the rows that are left of a list, those that pass a test
pub record IsRestWhere (keys : List SortKey) (exact : Bool) (test : Row → Bool) (rest cut : PartRest) : Type 0 where
  pub list : cut.rows.now ≡ rest.rows.now
  pub is : IsRest keys exact cut
  pub rows : rest_rows cut ≡ filter test (rest_rows rest)

-- of the rows that are left of each list, those that pass a test
pub record AreRestsWhere (keys : List SortKey) (exact : Bool) (test : Row → Bool) (rests cuts : List PartRest) : Type 0 where
  pub lists : lists_of_rests cuts ≡ lists_of_rests rests
  pub are : AllByRecursion (IsRest keys exact) cuts
  pub rows : rows_of_rests cuts ≡ map (filter test) (rows_of_rests rests)

-- what is left of each list is in the order of the keys
abbrev pub IsRange : List SortKey → PartRests → Type 0
IsRange keys range = AllByRecursion (IsRest keys range.are_exact) range.rests.items

-- what is left of the same lists
pub record IsRangeOf (keys : List SortKey) (rests : List PartRest) (range : PartRests) : Type 0 where
  pub lists : lists_of_rests range.rests.items ≡ lists_of_rests rests
  pub are : IsRange keys range

abbrev pub rows_of_range : List SortKey → PartRests → List Row
rows_of_range keys range = sorted keys (joined (rows_of_rests range.rests.items))

-- the rows of ranges, those of each range in the order of the keys
abbrev pub rows_of_ranges : List SortKey → List PartRests → List Row
rows_of_ranges keys ranges = flat_map (rows_of_range keys) ranges

-- what is left of lists, in ranges whose rows, one range after another, are in the order of the keys
pub record AreRangesOf (keys : List SortKey) (rests : List PartRest) (ranges : List PartRests) : Type 0 where
  pub are : AllByRecursion (IsRangeOf keys rests) ranges
  pub rows : sorted keys (joined (rows_of_rests rests)) ≡ rows_of_ranges keys ranges

-- the places of the rows of a range in the order of the keys, unless memory ran out
abbrev pub IsRangeMerged : List SortKey → PartRests → Result (Vec PartPlace Global) AllocError → Type 0
IsRangeMerged keys range made = IfOk made (λ (places : Vec PartPlace Global). AreRestsMerged keys range.rests.items places.items)

pub record AreRangesMerged (keys : List SortKey) (ranges : List PartRests) (made : List (Result (Vec PartPlace Global) AllocError)) : Type 0 where
  pub counted : length made ≡ length ranges
  pub each : (at : ℕ) (d : Result (Vec PartPlace Global) AllocError) (e : PartRests) → at < length ranges
      → IsRangeMerged keys (slice_index_or ranges at e) (slice_index_or made at d)
