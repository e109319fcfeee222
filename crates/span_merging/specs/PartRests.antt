-- What is left of lists that are in order, while their rows are taken one by one.
use Rattle.std.specs.Prelude.{◌≡◌, ℕ, Bool, List, [], ◌∷◌, Option, length, map, slice_get, slice_index_or}
use Rattle.std.specs.List.{AllByRecursion}
use Rattle.span_query.specs.declared.query.SortKey.{SortKey}
use Rattle.span_query.specs.Rows.{Row}
use Rattle.span_query.specs.Sorting.{comes_before, sorted}
use Rattle.span_rows.specs.RowPlaces.{rows_at}
use Rattle.span_merging.specs.declared.parts.PartPlace.{PartPlace}
use Rattle.span_merging.specs.declared.parts.PartRest.{PartRest}
use Rattle.span_merging.specs.declared.parts.PartRests.{PartRests}
use Rattle.span_sorting.specs.declared.placed.CodedPlace.{CodedPlace}
use Rattle.span_sorting.specs.Orders.{IsOrderBelow, IsSorted, option_before, item_before}
use Rattle.span_merging.specs.PartPlaces.{IsPlaceIn, joined, row_in, rows_in}
use Rattle.span_sorting.specs.PlacesInOrder.{IsCodedPlace, without_codes}

-- the rows that are left, in their order
abbrev pub rest_rows : PartRest → List Row
rest_rows r = rows_at r.rows.now (without_codes r.places.now)

abbrev pub rows_of_rests : List PartRest → List (List Row)
rows_of_rests rests = map rest_rows rests

-- all rows of the lists
abbrev pub lists_of_rests : List PartRest → List (List Row)
lists_of_rests rests = map (λ (r : PartRest). r.rows.now) rests

-- the first row that is left
abbrev pub front : PartRest → Option Row
front r = slice_get (rest_rows r) 0

abbrev pub row_before : List SortKey → Option Row → Option Row → Bool
row_before keys r s = option_before (comes_before keys) r s

-- the places have the codes of the rows there, and these are in the order of the keys
pub record IsRest (keys : List SortKey) (exact : Bool) (r : PartRest) : Type 0 where
  pub coded : AllByRecursion (IsCodedPlace r.rows.now keys exact) r.places.now
  pub order : IsSorted (comes_before keys) (rest_rows r)

-- all rows of the lists are left, each list in the order of the keys
pub record AreRestsOf (keys : List SortKey) (parts : List (List Row)) (all : PartRests) : Type 0 where
  pub lists : lists_of_rests all.rests.items ≡ parts
  pub rests : AllByRecursion (IsRest keys all.are_exact) all.rests.items
  pub rows : sorted keys (joined (rows_of_rests all.rests.items)) ≡ sorted keys (joined parts)

-- the first row that is left of each list, by its place among the lists
abbrev pub front_at : List (List Row) → ℕ → Option Row
front_at lists i = slice_get (slice_index_or lists i []) 0

-- the first of the rows that are left is taken, and is at this place of its list
pub record IsFirstTaken (old new : PartRest) (at : ℕ) : Type 0 where
  pub taken : CodedPlace
  pub rows : new.rows ≡ old.rows
  pub places : old.places.now ≡ taken ∷ new.places.now
  pub place : at ≡ taken.place

-- the first row in the order of the keys is taken, and is at this place of the lists
pub record IsNextOf (keys : List SortKey) (exact : Bool) (old new : List PartRest) (at : PartPlace) : Type 0 where
  pub lists : lists_of_rests new ≡ lists_of_rests old
  pub rests : AllByRecursion (IsRest keys exact) new
  pub within : IsPlaceIn (lists_of_rests old) at
  pub rows : sorted keys (joined (rows_of_rests old)) ≡ row_in (lists_of_rests old) at ∷ sorted keys (joined (rows_of_rests new))

-- whether the first row that is left of a list comes before that of another one; of equal ones that of the first list does
abbrev pub part_before : List SortKey → List PartRest → ℕ → ℕ → Bool
part_before keys rests = item_before (row_before keys) (front_at (rows_of_rests rests))

-- the lists in the order of their first rows
abbrev pub IsPartOrder : List SortKey → List PartRest → List ℕ → Type 0
IsPartOrder keys rests order = IsOrderBelow (length rests) (part_before keys rests) order

-- the places of the rows that are left, in the order of the keys
pub record AreRestsMerged (keys : List SortKey) (rests : List PartRest) (places : List PartPlace) : Type 0 where
  pub within : AllByRecursion (IsPlaceIn (lists_of_rests rests)) places
  pub rows : rows_in (lists_of_rests rests) places ≡ sorted keys (joined (rows_of_rests rests))
