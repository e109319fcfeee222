-- What a query means on the tables of a database.
use Rattle.std.specs.Prelude.{ℕ, Bool, List, map, filter}
use Rattle.span_value.specs.declared.value.Value.{Value}
use Rattle.span_schema.specs.declared.table.Table.{Table}
use Rattle.span_keycode.specs.declared.range.KeyRange.{KeyRange}
use Rattle.span_keycode.specs.Keys.{key_code}
use Rattle.span_keycode.specs.Parts.{is_within}
use Rattle.span_mutate.specs.declared.row.TableRow.{TableRow}
use Rattle.span_mutate.specs.Database.{rows_of}
use Rattle.span_query.specs.declared.query.BoundQuery.{BoundQuery}
use Rattle.span_query.specs.Rows.{Rows}
use Rattle.span_query.specs.Meaning.{meaning_over, meaning, given}
use Rattle.span_columns.specs.declared.leaf.Leaf.{Leaf}
use Rattle.span_columns.specs.declared.leaf.Plan.{Plan}
use Rattle.span_columns.specs.Picks.{pick_rows}
use Rattle.span_leaves.specs.Results.{leaf_rows}
pub use Rattle.span_entries.specs.Meaning.{value_for, value_at, declared_row, whole_table}

-- the rows, in order, that a query with these leaves, tables by their numbers, means on a database; none is the fault
abbrev pub means : List Table → BoundQuery → List ℕ → List TableRow → Rows
means schema query leaves db = meaning (map (whole_table schema db) leaves) query

-- ---- by the leaves of a plan

-- the range has the coded key of the row
abbrev pub row_within : List Table → KeyRange → TableRow → Bool
row_within schema range r = is_within range (key_code schema r.table r.key)

-- the rows of a table whose coded keys are in the range, each with its values in the order of declaration
abbrev pub rows_within : List Table → List TableRow → ℕ → KeyRange → List (List Value)
rows_within schema db table range = map (declared_row schema) (filter (row_within schema range) (rows_of table db))

-- those of several tables
abbrev pub tables_within : List Table → List TableRow → List ℕ → KeyRange → List (List (List Value))
tables_within schema db tables range = map (λ table. rows_within schema db table range) tables

-- what a leaf gives on the rows in a range: rows of the columns alone that leave it
abbrev pub leaf_within : List Table → List TableRow → Leaf → KeyRange → Rows
leaf_within schema db leaf range = pick_rows leaf.kept (leaf_rows leaf (tables_within schema db leaf.tables range))

-- what a plan gives on a database: the leaves on their ranges, and then the query above them
abbrev pub plan_means : List Table → Plan → List TableRow → Rows
plan_means schema plan db =
    meaning_over (given (map (λ (l : Leaf). leaf_within schema db l l.range) plan.leaves)) plan.top
