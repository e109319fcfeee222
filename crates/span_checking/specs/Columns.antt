-- What a column takes, and which columns a mutation names.
use Rattle.std.specs.Prelude.{ℕ, Bool, true, false, not, ◌||◌, ◌&&◌, nat_lt, List, [], ◌∷◌, length, map, filter, find, Option, Some, None, if◌then◌else◌}
use Rattle.std.specs.List.{list_any}
use Rattle.std.specs.Option.{option_map}
use Rattle.std.specs.Str.{chars}
use Rattle.span_value.specs.declared.value.Value.{Value}
use Rattle.span_value.specs.declared.value.Value.TheVariants as value
use Rattle.span_value.specs.declared.value.ColumnType.{ColumnType}
use Rattle.span_value.specs.declared.value.ColumnType.TheVariants as type
use Rattle.span_schema.specs.declared.table.Table.{Table}
use Rattle.span_schema.specs.declared.table.Column.{Column}
use Rattle.span_schema.specs.declared.table.KeyColumn.{KeyColumn}
use Rattle.span_schema.specs.Tables.{kind_of, is_same_name, is_key_name}
use Rattle.span_schema.specs.Fitting.{is_of_kind}
use Rattle.span_mutate.specs.declared.mutation.NamedValue.{NamedValue}

-- the column with a name
abbrev pub column_named : List Column → List ℕ → Option Column
column_named columns name = find (λ (c : Column). is_same_name c.name name) columns

-- the column with a name that is outside the key
abbrev pub cell_column : Table → List ℕ → Option Column
cell_column t name = (if is_key_name t.key name then None else column_named t.columns name)

-- a value of another type than the column's
abbrev pub has_wrong_type : Option Column → Value → Bool
has_wrong_type None v = false
has_wrong_type (Some c) v = not (is_of_kind (kind_of c.kind) v)

abbrev pub is_null : Value → Bool
is_null value.Null = true
is_null v = false

-- NULL in a NOT NULL column
abbrev pub is_null_refused : Option Column → Value → Bool
is_null_refused None v = false
is_null_refused (Some c) v = c.not_null && is_null v

abbrev pub exceeds : Option ℕ → ℕ → Bool
exceeds None n = false
exceeds (Some most) n = nat_lt most n

-- more characters of a STRING, or bytes of BYTES, than the type allows
abbrev pub exceeds_type : ColumnType → Value → Bool
exceeds_type (type.Str most) (value.Str text) = exceeds most (length (chars text))
exceeds_type (type.Bytes most) (value.Bytes bytes) = exceeds most (length bytes)
exceeds_type t v = false

abbrev pub is_too_long : Option Column → Value → Bool
is_too_long None v = false
is_too_long (Some c) v = exceeds_type c.kind v

-- a value of the key, with its column, of which a rule is broken
abbrev pub key_breaks : (Option Column → Value → Bool) → List Column → List KeyColumn → List Value → Bool
key_breaks rule columns [] vs = false
key_breaks rule columns (k ∷ ks) [] = false
key_breaks rule columns (k ∷ ks) (v ∷ vs) = rule (column_named columns k.name) v || key_breaks rule columns ks vs

-- whether a cell is of the column with this name
abbrev pub is_named : List NamedValue → List ℕ → Bool
is_named cells name = list_any (λ (c : NamedValue). is_same_name c.column name) cells

-- a NOT NULL column outside the key that no cell names
abbrev pub is_lacking : List KeyColumn → List NamedValue → Column → Bool
is_lacking key cells c = c.not_null && not (is_key_name key c.name) && not (is_named cells c.name)

abbrev pub lacks_cell : List KeyColumn → List NamedValue → List Column → Bool
lacks_cell key cells columns = list_any (is_lacking key cells) columns

-- the value that the cells give the column with a name
abbrev pub value_named : List NamedValue → List ℕ → Option Value
value_named cells name =
    option_map (λ (c : NamedValue). c.value) (find (λ (c : NamedValue). is_same_name c.column name) cells)

-- the columns outside the key, in the order of declaration
abbrev pub other_columns : List KeyColumn → List Column → List Column
other_columns key columns = filter (λ (c : Column). not (is_key_name key c.name)) columns

-- for each of them the value that the cells give it
abbrev pub values_named : List KeyColumn → List NamedValue → List Column → List (Option Value)
values_named key cells columns = map (λ (c : Column). value_named cells c.name) (other_columns key columns)
