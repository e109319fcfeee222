-- The rules that a table meets, and the first that it breaks.
use Rattle.std.specs.Prelude.{ℕ, Bool, true, false, not, ◌||◌, ◌&&◌, ◌==◌, nat_lt, nat_le, List, [], ◌∷◌, length, Option, Some, None, is_some, is_none}
use Rattle.std.specs.List.{list_any}
use Rattle.span_value.specs.declared.refusal.Refusal.{Refusal}
use Rattle.span_value.specs.declared.refusal.Refusal.TheVariants.{TooMany, DuplicateTable, BadColumn, NoParent, KeyNotPrefixed, HierarchyTooDeep}
use Rattle.span_value.specs.declared.value.ColumnType.{ColumnType}
use Rattle.span_value.specs.declared.value.ColumnType.TheVariants.{Int, Str, Bytes, Bool as Truth}
use Rattle.span_schema.specs.Limits.{most_tables, most_columns, most_levels, longest_column}
use Rattle.span_schema.specs.declared.table.Table.{Table}
use Rattle.span_schema.specs.declared.table.Column.{Column}
use Rattle.span_schema.specs.declared.table.KeyColumn.{KeyColumn}
use Rattle.span_schema.specs.declared.table.Parent.{Parent}
use Rattle.span_schema.specs.Tables.{is_same_name, column_place, is_key_name, table_place, parent_place, type_named, table_named, is_same_type}

-- too many tables, or too many columns
abbrev pub has_too_many : List Table → Table → Bool
has_too_many before t = nat_le most_tables (length before) || nat_lt most_columns (length t.columns)

-- two columns of one name
abbrev pub has_repeated_column : List Column → Bool
has_repeated_column [] = false
has_repeated_column (c ∷ cs) = is_some (column_place cs c.name) || has_repeated_column cs

-- a column that is twice in the key
abbrev pub has_repeated_key : List KeyColumn → Bool
has_repeated_key [] = false
has_repeated_key (k ∷ ks) = is_key_name ks k.name || has_repeated_key ks

abbrev pub has_unknown_key : List Column → List KeyColumn → Bool
has_unknown_key columns key = list_any (λ (k : KeyColumn). is_none (column_place columns k.name)) key

abbrev pub is_outside : Option ℕ → Bool
is_outside None = false
is_outside (Some n) = (n == 0) || nat_lt longest_column n

-- a greatest length that is 0 or too great
abbrev pub has_bad_length : ColumnType → Bool
has_bad_length Int = false
has_bad_length (Str n) = is_outside n
has_bad_length (Bytes n) = is_outside n
has_bad_length Truth = false

abbrev pub has_bad_lengths : List Column → Bool
has_bad_lengths columns = list_any (λ (c : Column). has_bad_length c.kind) columns

-- two columns of one name, an empty key, an unknown or a repeated key column, or a bad length
abbrev pub has_bad_column : Table → Bool
has_bad_column t =
    has_repeated_column t.columns
    || (length t.key == 0)
    || has_unknown_key t.columns t.key
    || has_repeated_key t.key
    || has_bad_lengths t.columns

-- a parent that is not declared before
abbrev pub has_no_parent : List Table → Table → Bool
has_no_parent before t = is_some t.parent && is_none (parent_place before t)

abbrev pub is_same_direction : Bool → Bool → Bool
is_same_direction true b = b
is_same_direction false b = not b

-- key columns of two tables are equal: in name, direction, and type with its length
abbrev pub is_same_key_column : List Column → List Column → KeyColumn → KeyColumn → Bool
is_same_key_column cs ds k l =
    is_same_name k.name l.name && is_same_direction k.desc l.desc
    && is_same_type (type_named cs k.name) (type_named ds l.name)

abbrev pub begins_key : List Column → List Column → List KeyColumn → List KeyColumn → Bool
begins_key cs ds [] ls = true
begins_key cs ds (k ∷ ks) [] = false
begins_key cs ds (k ∷ ks) (l ∷ ls) = is_same_key_column cs ds k l && begins_key cs ds ks ls

-- the key of the table above, and at least one column more
abbrev pub extends_key : Table → Table → Bool
extends_key above t = nat_lt (length above.key) (length t.key) && begins_key above.columns t.columns above.key t.key

abbrev pub extends_found : Option Table → Table → Bool
extends_found None t = true
extends_found (Some above) t = extends_key above t

abbrev pub extends_named : List Table → Option Parent → Table → Bool
extends_named before None t = true
extends_named before (Some p) t = extends_found (table_named before p.name) t

-- a key that does not begin with the parent's key, or adds nothing
abbrev pub has_other_key : List Table → Table → Bool
has_other_key before t = not (extends_named before t.parent t)

-- the rules in the order in which they are checked, each with whether the table breaks it
abbrev pub causes_of : List Table → Table → ℕ → List (Bool × Refusal)
causes_of before t level =
    (has_too_many before t, TooMany)
    ∷ (is_some (table_place before t.name), DuplicateTable)
    ∷ (has_bad_column t, BadColumn)
    ∷ (has_no_parent before t, NoParent)
    ∷ (has_other_key before t, KeyNotPrefixed)
    ∷ (nat_lt most_levels level, HierarchyTooDeep)
    ∷ []
