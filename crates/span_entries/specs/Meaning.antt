-- The rows of a table of a database, as a query sees them.
use Rattle.std.specs.Prelude.{ℕ, ◌==◌, List, [], ◌∷◌, length, map, Option, Some, None, if◌then◌else◌}
use Rattle.std.specs.List.{range_with_len}
use Rattle.std.specs.Option.{unwrap_or, option_or}
use Rattle.span_value.specs.declared.value.Value.{Value}
use Rattle.span_value.specs.declared.value.Value.TheVariants.{Null}
use Rattle.span_schema.specs.declared.table.Table.{Table}
use Rattle.span_schema.specs.Numbers.{columns_of, key_places, other_places}
use Rattle.span_mutate.specs.declared.row.TableRow.{TableRow}
use Rattle.span_mutate.specs.Database.{rows_of}

-- the value for a place among the columns
abbrev pub value_for : List ℕ → List Value → ℕ → Option Value
value_for [] vs place = None
value_for (p ∷ ps) [] place = None
value_for (p ∷ ps) (v ∷ vs) place = if p == place then Some v else value_for ps vs place

-- the value of a row at a place among the columns: of its key, or else of its other cells
abbrev pub value_at : List Table → TableRow → ℕ → Value
value_at schema r place =
    unwrap_or (option_or (value_for (key_places schema r.table) r.key place)
    (value_for (other_places schema r.table) r.cells place)) Null

-- the values of a row, in the order in which its table declares the columns
abbrev pub declared_row : List Table → TableRow → List Value
declared_row schema r = map (value_at schema r) (range_with_len 0 (length (columns_of schema r.table)))

-- all rows of a table, in the order of its primary key
abbrev pub whole_table : List Table → List TableRow → ℕ → List (List Value)
whole_table schema db n = map (declared_row schema) (rows_of n db)
