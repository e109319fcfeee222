-- The coding of a whole key: a level for its root row, and one for each table below it.
use Rattle.std.specs.Prelude.{ℕ, ◌+◌, ◌-◌, ◌≤◌, List, [], ◌∷◌, ◌++◌, map, length, take, drop, Option, Some, None, nat_lt, if◌then◌else◌}
use Rattle.span_value.specs.declared.refusal.Refusal.{Refusal}
use Rattle.span_value.specs.declared.refusal.Refusal.TheVariants.{WrongType, KeyTooLong}
use Rattle.std.specs.Ordering.{nat_cmp, ordering_then}
use Rattle.std.specs.Cmp.Lexicographic.{slice_cmp}
use Rattle.std.specs.declared.cmp.Ordering.{Ordering}
use Rattle.span_value.specs.declared.value.Value.{Value}
use Rattle.span_schema.specs.declared.table.Table.{Table}
use Rattle.span_schema.specs.Lineages.{parent_at}
use Rattle.span_schema.specs.Numbers.{IsTable, key_at, key_columns, own_key_columns, columns_above, path_of}
use Rattle.span_keycode.specs.Coding.{AreFit, are_of_kinds, plain, tuple_code, tuple_cmp}
use Rattle.span_keycode.specs.Limits.{longest_key}

-- a table's number, and the values of the key columns that are its own
pub record Level : Type 0 where
  pub table : ℕ
  pub values : List Value

-- the key values of the table at a place, of those of a table at or below it; without those of its parent
abbrev pub own_values_at : List Table → ℕ → List Value → List Value
own_values_at tables i vs = drop (columns_above tables (parent_at tables i)) (take (length (key_at tables i)) vs)

abbrev pub own_values : List Table → ℕ → List Value → List Value
own_values tables n vs = own_values_at tables (n - 1) vs

abbrev pub level_of : List Table → List Value → ℕ → Level
level_of tables vs n = record { table = n; values = own_values tables n vs }

-- how many bytes code values, whatever the directions of their columns
abbrev pub values_len : List Value → ℕ
values_len [] = 0
values_len (v ∷ vs) = length (plain v) + values_len vs

-- the levels of a key, from that of its root row down
abbrev pub levels_of : List Table → ℕ → List Value → List Level
levels_of tables n vs = map (level_of tables vs) (path_of tables n)

-- a table's number, and the codings of its own key columns
abbrev pub level_code : List Table → Level → List ℕ
level_code tables l = l.table ∷ tuple_code (own_key_columns tables l.table) l.values

abbrev pub code_of : List Table → List Level → List ℕ
code_of tables [] = []
code_of tables (l ∷ ls) = level_code tables l ++ code_of tables ls

-- the coding of a key of table n
abbrev pub key_code : List Table → ℕ → List Value → List ℕ
key_code tables n vs = code_of tables (levels_of tables n vs)

-- the values of a key of table n
abbrev pub IsKey : List Table → ℕ → List Value → Type 0
IsKey tables n vs = IsTable tables n × AreFit (key_columns tables n) vs

-- the same, where its coding is not too long
abbrev pub IsCodedKey : List Table → ℕ → List Value → Type 0
IsCodedKey tables n vs = IsKey tables n vs × (length (key_code tables n vs) ≤ longest_key)

-- why a key has no coding: a value that fits no column, and then its length
abbrev pub encode_cause : List Table → ℕ → List Value → Option Refusal
encode_cause tables n vs =
    (if are_of_kinds (key_columns tables n) vs
    then (if nat_lt longest_key (length (key_code tables n vs)) then Some KeyTooLong else None) else Some WrongType)

abbrev pub level_cmp : List Table → Level → Level → Ordering
level_cmp tables l m =
    ordering_then (nat_cmp l.table m.table) (tuple_cmp (own_key_columns tables l.table) l.values m.values)

-- level by level, a key before those below it
abbrev pub levels_cmp : List Table → List Level → List Level → Ordering
levels_cmp tables = slice_cmp (level_cmp tables)

-- the order of keys of tables of a schema: by table number and values, from the root row down
abbrev pub key_cmp : List Table → ℕ → List Value → ℕ → List Value → Ordering
key_cmp tables n vs m ws = levels_cmp tables (levels_of tables n vs) (levels_of tables m ws)
