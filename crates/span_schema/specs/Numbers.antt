-- What is asked of a schema. Tables go by their numbers, from 1 on; columns by their places, from 0 on.
use Rattle.std.specs.Prelude.{ℕ, ◌+◌, ◌-◌, ◌≤◌, List, [], Option, Some, None, length, slice_get, slice_index, drop}
use Rattle.std.specs.Option.{option_map}
use Rattle.span_value.specs.declared.value.Kind.{Kind}
use Rattle.span_schema.specs.declared.table.Table.{Table}
use Rattle.span_schema.specs.declared.table.Column.{Column}
use Rattle.span_schema.specs.declared.table.KeyColumn.{KeyColumn}
use Rattle.span_schema.specs.declared.layout.KeyPart.{KeyPart}
use Rattle.span_schema.specs.Tables.{table_place, column_place}
use Rattle.span_schema.specs.Lineages.{parent_at, path_at, children_at}
use Rattle.span_schema.specs.Layouts as layout

-- the number of a declared table
abbrev pub IsTable : List Table → ℕ → Type 0
IsTable tables n = (1 ≤ n) × (n ≤ length tables)

abbrev pub table_at : List Table → ℕ → Option Table
table_at tables n = slice_get tables (n - 1)

abbrev pub number_of : Option ℕ → Option ℕ
number_of place = option_map (λ (p : ℕ). p + 1) place

-- the number of the table with a name
abbrev pub number_named : List Table → List ℕ → Option ℕ
number_named tables name = number_of (table_place tables name)

abbrev pub parent_of : List Table → ℕ → Option ℕ
parent_of tables n = number_of (parent_at tables (n - 1))

-- the numbers from the root table down
abbrev pub path_of : List Table → ℕ → List ℕ
path_of tables n = path_at tables (n - 1)

abbrev pub level_of : List Table → ℕ → ℕ
level_of tables n = length (path_of tables n)

abbrev pub root_of : List Table → ℕ → ℕ
root_of tables n = slice_index (path_of tables n) 0

abbrev pub children_of : List Table → ℕ → List ℕ
children_of tables n = children_at tables (n - 1)

abbrev pub columns_in : Option Table → List Column
columns_in None = []
columns_in (Some t) = t.columns

abbrev pub key_in : Option Table → List KeyColumn
key_in None = []
key_in (Some t) = t.key

abbrev pub columns_of : List Table → ℕ → List Column
columns_of tables n = columns_in (table_at tables n)

-- the columns of the key of the table at a place
abbrev pub key_at : List Table → ℕ → List KeyPart
key_at tables i = layout.key_parts (columns_in (slice_get tables i)) (key_in (slice_get tables i))

-- the columns of a table's key, in its order
abbrev pub key_columns : List Table → ℕ → List KeyPart
key_columns tables n = key_at tables (n - 1)

abbrev pub key_places : List Table → ℕ → List ℕ
key_places tables n = layout.key_places (columns_of tables n) (key_in (table_at tables n))

-- the places of the columns that are not in the key
abbrev pub other_places : List Table → ℕ → List ℕ
other_places tables n = layout.other_places (key_in (table_at tables n)) 0 (columns_of tables n)

-- the kinds of those columns
abbrev pub other_kinds : List Table → ℕ → List Kind
other_kinds tables n = layout.other_kinds (key_in (table_at tables n)) (columns_of tables n)

abbrev pub column_named : List Table → ℕ → List ℕ → Option ℕ
column_named tables n name = column_place (columns_of tables n) name

-- how many columns of a table's key are those of its parent, which is at a place
abbrev pub columns_above : List Table → Option ℕ → ℕ
columns_above tables None = 0
columns_above tables (Some p) = length (key_at tables p)

-- the key columns of the table at a place that are not its parent's
abbrev pub own_key_at : List Table → ℕ → List KeyPart
own_key_at tables i = drop (columns_above tables (parent_at tables i)) (key_at tables i)

abbrev pub own_key_columns : List Table → ℕ → List KeyPart
own_key_columns tables n = own_key_at tables (n - 1)
