-- The rows of a list at which the values of some columns appear first.
use Rattle.std.specs.Prelude.{◌≡◌, ℕ, ◌<◌, List, length}
use Rattle.std.specs.List.{All}
use Rattle.span_query.specs.Rows.{Row}
use Rattle.span_rows.specs.Columns.{distinct_at}
use Rattle.span_rows.specs.RowPlaces.{rows_at}
use Rattle.span_collected.specs.declared.firsts.FirstPlaces.{FirstPlaces}

-- the places of rows that have each of the values once
pub record AreFirstsAt (columns : List ℕ) (rows : List Row) (places : List ℕ) : Type 0 where
  pub within : All (λ (place : ℕ). place < length rows) places
  pub values : distinct_at columns (rows_at rows places) ≡ distinct_at columns rows

abbrev pub AreFirstsOf : List Row → FirstPlaces → Type 0
AreFirstsOf rows firsts = AreFirstsAt firsts.columns.items rows firsts.places.items
