-- Rows in parts.
use Rattle.std.specs.Prelude.{List, flat_map}
use denote.Ref.{Bor}
use Rattle.span_query.specs.Rows.{Row}

-- the rows of parts, one part after another
abbrev pub all_rows : List (Bor (List Row)) → List Row
all_rows parts = flat_map (λ (part : Bor (List Row)). part.now) parts
