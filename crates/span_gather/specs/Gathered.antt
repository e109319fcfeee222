-- The rows of a query, from the pieces of its leaves.
use Rattle.std.specs.Prelude.{List, map}
use Rattle.span_query.specs.declared.query.BoundQuery.{BoundQuery}
use Rattle.span_query.specs.Rows.{Rows, concat_map}
use Rattle.span_query.specs.Meaning.{given, meaning_over}
use Rattle.span_fragment.specs.declared.piece.Piece.{Piece}

-- the rows of pieces one after another, or the fault where one of them is it
abbrev pub joined_pieces : List Piece → Rows
joined_pieces pieces = concat_map (λ (p : Piece). p.rows) pieces

-- the rows, in order, that the query above the leaves means where its tables are the pieces of the leaves; none is the
-- fault
abbrev pub gathered : List (List Piece) → BoundQuery → Rows
gathered leaves top = meaning_over (given (map joined_pieces leaves)) top
