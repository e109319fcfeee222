-- What a leaf gives on a part of its range.
use Rattle.std.specs.Prelude.{◌≡◌, ℕ, List, map}
use Rattle.span_schema.specs.declared.table.Table.{Table}
use Rattle.span_mutate.specs.declared.row.TableRow.{TableRow}
use Rattle.span_mutate.specs.Typed.{AreTyped}
use Rattle.span_shard.specs.Shard.{KeyRow}
use Rattle.span_query.specs.declared.query.BoundQuery.{BoundQuery}
use Rattle.span_algebra.specs.SameMeaning.{MeanTheSame}
use Rattle.span_columns.specs.declared.leaf.Leaf.{Leaf}
use Rattle.span_columns.specs.Picks.{pick_rows}
use Rattle.span_leaves.specs.Results.{leaf_rows}
use Rattle.span_fragment.specs.declared.piece.Piece.{Piece}
use Rattle.span_entries.specs.Meaning.{whole_table}
use Rattle.span_entries.specs.Entries.{key_row}

-- For the query above the leaves, whose leaf it is at this place, the piece has as good rows as those that the leaf gives where its tables have
-- the rows that the entries are, each with the columns alone that leave it, or it is the fault.
abbrev pub IsPieceOf : List Table → Leaf → BoundQuery → ℕ → List KeyRow → Piece → Type 0
IsPieceOf schema leaf query place entries piece =
    (rows : List TableRow) → AreTyped schema rows → entries ≡ map (key_row schema) rows
    → MeanTheSame query place piece.rows (pick_rows leaf.kept (leaf_rows leaf (map (whole_table schema rows) leaf.tables)))
