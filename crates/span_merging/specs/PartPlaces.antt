-- Places in several lists of rows, and the rows there.
use Rattle.std.specs.Prelude.{◌≡◌, ◌<◌, List, [], flat_map, length, map, slice_index_or}
use Rattle.std.specs.List.{AllByRecursion}
use denote.Ref.{Bor}
use Rattle.span_query.specs.declared.query.SortKey.{SortKey}
use Rattle.span_query.specs.Rows.{Row}
use Rattle.span_query.specs.Sorting.{sorted}
use Rattle.span_merging.specs.declared.parts.PartPlace.{PartPlace}

-- lists that are lent
abbrev pub lists : List (Bor (List Row)) → List (List Row)
lists parts = map (λ (part : Bor (List Row)). part.now) parts

-- the rows of lists, one list after another
abbrev pub joined : List (List Row) → List Row
joined parts = flat_map (λ (part : List Row). part) parts

pub record IsPlaceIn (parts : List (List Row)) (p : PartPlace) : Type 0 where
  pub part : p.part < length parts
  pub place : p.place < length (slice_index_or parts p.part [])

abbrev pub row_in : List (List Row) → PartPlace → Row
row_in parts p = slice_index_or (slice_index_or parts p.part []) p.place []

abbrev pub rows_in : List (List Row) → List PartPlace → List Row
rows_in parts places = map (row_in parts) places

-- the places of the rows of lists in the order of the keys
pub record AreInOrder (keys : List SortKey) (parts : List (List Row)) (places : List PartPlace) : Type 0 where
  pub within : AllByRecursion (IsPlaceIn parts) places
  pub rows : rows_in parts places ≡ sorted keys (joined parts)
