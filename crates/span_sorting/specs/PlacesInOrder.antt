-- The places of the rows of a list, in the order of some keys.
use Rattle.std.specs.Prelude.{◌≡◌, ℕ, ◌<◌, ◌≤◌, ◌+◌, ◌-◌, Bool, true, false, List, [], ◌∷◌, Option, None, Some, drop, length, map, slice_get, slice_index_or, take}
use Rattle.std.specs.List.{AllByRecursion}
use Rattle.span_query.specs.declared.query.SortKey.{SortKey}
use Rattle.span_query.specs.Rows.{Row}
use Rattle.span_query.specs.Sorting.{sorted}
use Rattle.span_rows.specs.RowPlaces.{rows_at}
use Rattle.span_sorting.specs.declared.coded.CodedRow.{CodedRow}
use Rattle.span_sorting.specs.declared.placed.CodedPlace.{CodedPlace}
use Rattle.span_sorting.specs.declared.placed.PlacedRow.{PlacedRow}
use Rattle.span_sorting.specs.declared.rows_with_order.RowOrder.{RowOrder}
use Rattle.span_sorting.specs.Codes.{AreInRange, IsCodedAs, are_exact, code_before, first_code, second_code, uncoded}
use Rattle.span_sorting.specs.Orders.{IsSorted, take_first}

-- rows with their codes, without their places
abbrev pub without_places : List PlacedRow → List CodedRow
without_places xs = map (λ (x : PlacedRow). x.coded) xs

-- a row of a list, with its codes and its place there
pub record IsPlaced (rows : List Row) (keys : List SortKey) (exact : Bool) (x : PlacedRow) : Type 0 where
  pub coded : IsCodedAs keys exact x.coded
  pub row : x.coded.row.now ≡ slice_index_or rows x.place []
  pub within : x.place < length rows

-- by the codes, then by the keys
abbrev pub placed_before : List SortKey → PlacedRow → PlacedRow → Bool
placed_before keys x y = code_before keys false x.coded y.coded

-- the first `count` of the rows from this place on in the order of the keys
pub record AreFirst (keys : List SortKey) (count : ℕ) (rows : List Row) (at : ℕ) (xs : List PlacedRow) : Type 0 where
  pub few : length xs ≤ count
  pub order : IsSorted (placed_before keys) xs
  pub placed : AllByRecursion (IsPlaced rows keys false) xs
  pub first : uncoded (without_places xs) ≡ take count (sorted keys (drop at rows))

-- there are `count` rows, and the code of the last at the first key is below this code
abbrev pub EndsBelow : ℕ → ℕ → List PlacedRow → Type 0
EndsBelow count code xs =
    (count ≡ length xs) × (last : PlacedRow) × (slice_get xs (length xs - 1) ≡ Some last) × (last.coded.first < code)

-- the place of a row with its codes, without the row
abbrev pub coded_place : PlacedRow → CodedPlace
coded_place x = record { first = x.coded.first; second = x.coded.second; place = x.place }

-- the places of rows with their codes that lie one after another, the first at this place
abbrev pub places_from : ℕ → List CodedRow → List CodedPlace
places_from at [] = []
places_from at (x ∷ xs) = record { first = x.first; second = x.second; place = at } ∷ places_from (at + 1) xs

-- a place of a list, with the codes of the row there, which are exact if it is stated
pub record IsCodedPlace (rows : List Row) (keys : List SortKey) (exact : Bool) (x : CodedPlace) : Type 0 where
  pub within : x.place < length rows
  pub first : x.first ≡ first_code keys (slice_index_or rows x.place [])
  pub second : x.second ≡ second_code keys (slice_index_or rows x.place [])
  pub range : AreInRange keys (slice_index_or rows x.place [])
  pub ties : exact ≡ true → are_exact keys (slice_index_or rows x.place []) ≡ true

-- the places without the codes
abbrev pub without_codes : List CodedPlace → List ℕ
without_codes xs = map (λ (x : CodedPlace). x.place) xs

-- the places of the rows of a list in the order of the keys: of the first, where a count of them is given, else of all
pub record ArePlacesBy (keys : List SortKey) (count : Option ℕ) (rows : List Row) (exact : Bool) (places : List CodedPlace) : Type 0 where
  pub coded : AllByRecursion (IsCodedPlace rows keys exact) places
  pub sorted : rows_at rows (without_codes places) ≡ take_first count (sorted keys rows)

abbrev pub IsOrderOf : List Row → RowOrder → Type 0
IsOrderOf rows order = ArePlacesBy order.keys.items None rows order.found.are_exact order.found.places.items
