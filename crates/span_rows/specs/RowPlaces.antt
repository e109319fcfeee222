-- Rows by their places in a list.
use Rattle.std.specs.Prelude.{ℕ, List, [], map, slice_index_or}
use Rattle.span_query.specs.Rows.{Row}

-- the rows of a list at some places
abbrev pub rows_at : List Row → List ℕ → List Row
rows_at rows places = map (λ (place : ℕ). slice_index_or rows place []) places
