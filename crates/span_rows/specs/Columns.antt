-- The values of rows at some columns.
use Rattle.std.specs.Prelude.{ℕ, List, map}
use Rattle.span_query.specs.Rows.{Row}
use Rattle.span_query.specs.Groups.{columns_at, distinct}

-- the values of rows at some columns, each once, at its first place
abbrev pub distinct_at : List ℕ → List Row → List Row
distinct_at columns rows = distinct (map (columns_at columns) rows)
