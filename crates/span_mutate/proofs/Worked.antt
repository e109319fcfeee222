-- The definitions on worked rows, compared with what they come to by hand. Each is proved by computing it.
use Rattle.std.proofs.Common.{◌≡◌, ℕ, pos, Bool, true, false, List, [], ◌∷◌, Option, Some, None, Ok, Err, refl}
use Rattle.span_value.specs.declared.value.Value.{Value}
use Rattle.span_value.specs.declared.value.Value.TheVariants.{Null, Int, Bool as Flag}
use Rattle.span_value.specs.declared.value.ColumnType.{ColumnType}
use Rattle.span_value.specs.declared.value.ColumnType.TheVariants as type
use Rattle.span_value.specs.declared.refusal.Refusal.TheVariants.{Exists, Missing, ParentMissing, HasChildren}
use Rattle.span_schema.specs.declared.table.Table.{Table}
use Rattle.span_schema.specs.declared.table.Column.{Column}
use Rattle.span_schema.specs.declared.table.KeyColumn.{KeyColumn}
use Rattle.span_mutate.specs.declared.mutation.MutationKind.{MutationKind}
use Rattle.span_mutate.specs.declared.mutation.MutationKind.TheVariants.{Insert, Update, InsertOrUpdate, Delete}
use Rattle.span_mutate.specs.declared.mutation.CheckedMutation.{CheckedMutation}
use Rattle.span_mutate.specs.declared.row.TableRow.{TableRow}
use Rattle.span_mutate.specs.Database.{apply, rows_of}
use Rattle.span_mutate.specs.Directories.{directory, root_row}

-- a column, by its letter
abbrev column : ℕ → ColumnType → Bool → Column
column name type required = record { name = name ∷ []; kind = type; not_null = required }

abbrev key_column : ℕ → Bool → KeyColumn
key_column name descending = record { name = name ∷ []; desc = descending }

-- A (a INT64 NOT NULL, u BOOL, v BOOL) PRIMARY KEY (a)
abbrev table_a : Table
table_a = record { name = 65 ∷ []; columns = column 97 type.Int true ∷ column 117 type.Bool false ∷ column 118 type.Bool false ∷ []; key = key_column 97 false ∷ []; parent = None }

-- B (a INT64, b INT64) PRIMARY KEY (a, b DESC), INTERLEAVE IN PARENT A
abbrev table_b : Bool → Table
table_b cascading = record {
  name = 66 ∷ [];
  columns = column 97 type.Int false ∷ column 98 type.Int false ∷ [];
  key = key_column 97 false ∷ key_column 98 true ∷ [];
  parent = Some (record { name = 65 ∷ []; cascade = cascading });
}

-- C (a INT64, b INT64, c INT64) PRIMARY KEY (a, b DESC, c), INTERLEAVE IN PARENT B
abbrev table_c : Bool → Table
table_c cascading = record {
  name = 67 ∷ [];
  columns = column 97 type.Int false ∷ column 98 type.Int false ∷ column 99 type.Int false ∷ [];
  key = key_column 97 false ∷ key_column 98 true ∷ key_column 99 false ∷ [];
  parent = Some (record { name = 66 ∷ []; cascade = cascading });
}

-- the schema, B and C being with ON DELETE CASCADE or not
abbrev pub schema : Bool → Bool → List Table
schema b c = table_a ∷ table_b b ∷ table_c c ∷ []

abbrev row : ℕ → List Value → List Value → TableRow
row n vs ws = record { table = n; key = vs; cells = ws }

abbrev pub mutation : MutationKind → ℕ → List Value → List (Option Value) → CheckedMutation
mutation kind n vs cs = record { kind = kind; table = n; key = vs; cells = cs }

abbrev pub one : Value
one = Int (pos 1)

abbrev two : Value
two = Int (pos 2)

-- A(1), B(1, 1), C(1, 1, 1)
abbrev a1 : TableRow
a1 = row 1 (one ∷ []) (Flag true ∷ Flag false ∷ [])

abbrev b11 : TableRow
b11 = row 2 (one ∷ one ∷ []) []

abbrev c111 : TableRow
c111 = row 3 (one ∷ one ∷ one ∷ []) []

abbrev a2 : TableRow
a2 = row 1 (two ∷ []) (Null ∷ Null ∷ [])

abbrev family : List TableRow
family = a1 ∷ a2 ∷ b11 ∷ c111 ∷ []

abbrev delete_a : CheckedMutation
delete_a = mutation Delete 1 (one ∷ []) (None ∷ None ∷ [])

abbrev delete_b : CheckedMutation
delete_b = mutation Delete 2 (one ∷ one ∷ []) []

-- NO ACTION keeps the parent, also where its child rows have none
no_action : apply (schema false true) (a1 ∷ b11 ∷ []) (delete_a ∷ []) ≡ Err HasChildren
no_action = refl

-- the child row first, and then its parent
children_first : apply (schema false true) (a1 ∷ b11 ∷ []) (delete_b ∷ delete_a ∷ []) ≡ Ok []
children_first = refl

-- CASCADE goes through all levels, and leaves other rows
cascade : apply (schema true true) family (delete_a ∷ []) ≡ Ok (a2 ∷ [])
cascade = refl

-- NO ACTION holds below a cascade too
held_below : apply (schema true false) family (delete_a ∷ []) ≡ Err HasChildren
held_below = refl

-- but only where there is a row
nothing_held : apply (schema true false) (a1 ∷ a2 ∷ b11 ∷ []) (delete_a ∷ []) ≡ Ok (a2 ∷ [])
nothing_held = refl

absent : apply (schema false false) (a2 ∷ []) (delete_a ∷ []) ≡ Ok (a2 ∷ [])
absent = refl

orphan : apply (schema true true) (a2 ∷ []) (mutation Insert 2 (one ∷ one ∷ []) [] ∷ []) ≡ Err ParentMissing
orphan = refl

over_a_row : apply (schema true true) family (mutation Insert 1 (one ∷ []) (None ∷ None ∷ []) ∷ []) ≡ Err Exists
over_a_row = refl

of_no_row : apply (schema true true) (a2 ∷ []) (mutation Update 1 (one ∷ []) (None ∷ None ∷ []) ∷ []) ≡ Err Missing
of_no_row = refl

-- Update keeps what it does not name
kept : apply (schema true true) family (mutation Update 1 (one ∷ []) (None ∷ Some (Flag true) ∷ []) ∷ []) ≡ Ok (row 1 (one ∷ []) (Flag true ∷ Flag true ∷ []) ∷ a2 ∷ b11 ∷ c111 ∷ [])
kept = refl

-- InsertOrUpdate too, and in a new row it is NULL
in_a_row : apply (schema true true) (a1 ∷ []) (mutation InsertOrUpdate 1 (one ∷ []) (Some Null ∷ None ∷ []) ∷ []) ≡ Ok (row 1 (one ∷ []) (Null ∷ Flag false ∷ []) ∷ [])
in_a_row = refl

in_none : apply (schema true true) [] (mutation InsertOrUpdate 1 (one ∷ []) (Some (Flag true) ∷ None ∷ []) ∷ []) ≡ Ok (row 1 (one ∷ []) (Flag true ∷ Null ∷ []) ∷ [])
in_none = refl

-- rows are in the order of their tables and keys; NULL is the first, and in a descending column the last
in_order : apply (schema true true) (a1 ∷ b11 ∷ [])
    (mutation Insert 1 (Null ∷ []) (None ∷ None ∷ []) ∷ mutation Insert 2 (one ∷ Null ∷ []) [] ∷ mutation Insert 2 (one ∷ two ∷ []) [] ∷ [])
    ≡ Ok (row 1 (Null ∷ []) (Null ∷ Null ∷ []) ∷ a1 ∷ row 2 (one ∷ two ∷ []) [] ∷ b11 ∷ row 2 (one ∷ Null ∷ []) [] ∷ [])
in_order = refl

-- the first mutation that has a fault, and its first fault
first_fault : apply (schema true true) (a1 ∷ []) (mutation Insert 2 (two ∷ one ∷ []) [] ∷ mutation Insert 1 (one ∷ []) (None ∷ None ∷ []) ∷ []) ≡ Err ParentMissing
first_fault = refl

-- the rows of a table, and those of a directory
rows_of_b : rows_of 2 family ≡ b11 ∷ []
rows_of_b = refl

directory_of_a1 : directory (schema true true) (record { table = 1; key = one ∷ [] }) family ≡ a1 ∷ b11 ∷ c111 ∷ []
directory_of_a1 = refl

root_of_c111 : root_row (schema true true) 3 (one ∷ one ∷ one ∷ []) ≡ record { table = 1; key = one ∷ [] }
root_of_c111 = refl
