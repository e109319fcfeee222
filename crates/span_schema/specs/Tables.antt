-- Names, and what is found by them.
use Rattle.std.specs.Prelude.{ℕ, Bool, true, false, ◌==◌, List, Option, Some, None, position}
use Rattle.std.specs.List.{list_any, find}
use Rattle.std.specs.Option.{option_map}
use Rattle.std.specs.Str.{str_eq_ignore_ascii_case}
use Rattle.span_value.specs.declared.value.Kind.{Kind}
use Rattle.span_value.specs.declared.value.Kind.TheVariants as kind
use Rattle.span_value.specs.declared.value.ColumnType.{ColumnType}
use Rattle.span_value.specs.declared.value.ColumnType.TheVariants.{Int, Str, Bytes, Bool as Truth}
use Rattle.span_schema.specs.declared.table.Table.{Table}
use Rattle.span_schema.specs.declared.table.Column.{Column}
use Rattle.span_schema.specs.declared.table.KeyColumn.{KeyColumn}
use Rattle.span_schema.specs.declared.table.Parent.{Parent}

-- the kind of the values of a type
abbrev pub kind_of : ColumnType → Kind
kind_of Int = kind.Int
kind_of (Str n) = kind.Str
kind_of (Bytes n) = kind.Bytes
kind_of Truth = kind.Bool

-- names are equal whatever the case of their ASCII letters
abbrev pub is_same_name : List ℕ → List ℕ → Bool
is_same_name = str_eq_ignore_ascii_case

-- the place of the column with a name
abbrev pub column_place : List Column → List ℕ → Option ℕ
column_place columns name = position (λ (c : Column). is_same_name c.name name) columns

-- whether a column of the key has the name
abbrev pub is_key_name : List KeyColumn → List ℕ → Bool
is_key_name key name = list_any (λ (k : KeyColumn). is_same_name k.name name) key

-- the place of the table with a name
abbrev pub table_place : List Table → List ℕ → Option ℕ
table_place tables name = position (λ (t : Table). is_same_name t.name name) tables

abbrev pub table_named : List Table → List ℕ → Option Table
table_named tables name = find (λ (t : Table). is_same_name t.name name) tables

-- the place of the named parent among the tables before
abbrev pub parent_place_of : List Table → Option Parent → Option ℕ
parent_place_of before None = None
parent_place_of before (Some p) = table_place before p.name

abbrev pub parent_place : List Table → Table → Option ℕ
parent_place before t = parent_place_of before t.parent

-- the type of the column with a name
abbrev pub type_named : List Column → List ℕ → Option ColumnType
type_named columns name = option_map (λ (c : Column). c.kind) (find (λ (c : Column). is_same_name c.name name) columns)

abbrev pub is_same_length : Option ℕ → Option ℕ → Bool
is_same_length None None = true
is_same_length (Some m) (Some n) = m == n
is_same_length a b = false

-- types are equal where their lengths are too
abbrev pub is_same_column_type : ColumnType → ColumnType → Bool
is_same_column_type Int Int = true
is_same_column_type (Str a) (Str b) = is_same_length a b
is_same_column_type (Bytes a) (Bytes b) = is_same_length a b
is_same_column_type Truth Truth = true
is_same_column_type a b = false

abbrev pub is_same_type : Option ColumnType → Option ColumnType → Bool
is_same_type None None = true
is_same_type (Some a) (Some b) = is_same_column_type a b
is_same_type a b = false
