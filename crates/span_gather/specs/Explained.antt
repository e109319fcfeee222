-- The text that explains a plan: how many leaves it has, and then of each a line with its tables and its range.
use Rattle.std.specs.Prelude.{ℕ, ◌+◌, List, [], ◌∷◌, ◌++◌, length, Option, Some, None, codes, if◌then◌else◌}
use Rattle.std.specs.Fmt.{decimal}
use Rattle.span_value.specs.Cells.{hex_pairs}
use Rattle.span_schema.specs.declared.table.Table.{Table}
use Rattle.span_schema.specs.Numbers.{table_at}
use Rattle.span_keycode.specs.declared.range.KeyRange.{KeyRange}
use Rattle.span_keycode.specs.Parts.{is_nonempty}
use Rattle.span_columns.specs.declared.leaf.Leaf.{Leaf}
use Rattle.span_columns.specs.declared.leaf.Plan.{Plan}

-- a table's name, as the schema spells it
abbrev pub name_in : Option Table → List ℕ
name_in None = []
name_in (Some t) = t.name

abbrev pub table_name : List Table → ℕ → List ℕ
table_name schema n = name_in (table_at schema n)

-- the names of tables after the first, each after a comma
abbrev pub more_names : List Table → List ℕ → List ℕ
more_names schema [] = []
more_names schema (n ∷ ns) = codes "," ++ table_name schema n ++ more_names schema ns

-- the names of tables, separated by commas
abbrev pub table_names : List Table → List ℕ → List ℕ
table_names schema [] = []
table_names schema (n ∷ ns) = table_name schema n ++ more_names schema ns

-- the ends of a range, in lower-case hexadecimal
abbrev pub ends_text : KeyRange → List ℕ
ends_text range = codes "[" ++ hex_pairs range.low ++ codes "," ++ hex_pairs range.high ++ codes ")"

-- the same, or that it has no keys
abbrev pub range_text : KeyRange → List ℕ
range_text range = if is_nonempty range then ends_text range else codes "empty"

-- the line of the leaf with a number
abbrev pub leaf_line : List Table → ℕ → Leaf → List ℕ
leaf_line schema number leaf =
    codes "leaf " ++ decimal number ++ codes " " ++ table_names schema leaf.tables ++ codes " " ++ range_text leaf.range
    ++ 10 ∷ []

-- the lines of leaves whose numbers begin with this one
abbrev pub leaf_lines : List Table → ℕ → List Leaf → List ℕ
leaf_lines schema number [] = []
leaf_lines schema number (leaf ∷ leaves) = leaf_line schema number leaf ++ leaf_lines schema (number + 1) leaves

abbrev pub explained : List Table → Plan → List ℕ
explained schema plan = codes "leaves " ++ decimal (length plan.leaves) ++ 10 ∷ [] ++ leaf_lines schema 0 plan.leaves
