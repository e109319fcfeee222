-- Rows that are lent, as the list of these rows.
use Rattle.std.specs.Prelude.{List, map}
use denote.Ref.{Bor}
use Rattle.span_query.specs.Rows.{Row}

abbrev pub lent_rows : List (Bor Row) → List Row
lent_rows rows = map (λ (r : Bor Row). r.now) rows
