-- Directories: a root row and all rows below it. Apply works on each as on its own.
use Rattle.std.specs.Prelude.{◌≡◌, ℕ, ◌==◌, ◌&&◌, Bool, false, List, [], ◌∷◌, ◌++◌, length, take, filter, Result, Ok, Err}
use Rattle.std.specs.List.{AllByRecursion}
use Rattle.std.specs.declared.cmp.Ordering.{Ordering}
use Rattle.std.specs.declared.cmp.Ordering.TheVariants.{Less}
use Rattle.span_value.specs.declared.value.Value.{Value}
use Rattle.span_value.specs.declared.refusal.Refusal.{Refusal}
use Rattle.span_schema.specs.declared.table.Table.{Table}
use Rattle.span_schema.specs.Lineages.{MeetsRules}
use Rattle.span_schema.specs.Numbers.{IsTable, key_columns, parent_of, root_of}
use Rattle.span_mutate.specs.declared.mutation.CheckedMutation.{CheckedMutation}
use Rattle.span_mutate.specs.declared.row.TableRow.{TableRow}
use Rattle.span_mutate.specs.Rows.{begins, key_order, row_order}
use Rattle.span_mutate.specs.Database.{rows_of, lacks_parent, apply_one, apply}

-- a root row: its table, and its key
pub record Root : Type 0 where
  pub table : ℕ
  pub key : List Value

-- a key of table n is in the directory of a root row: its root table is that row's, and it begins with that row's key
abbrev pub is_in_directory : List Table → Root → ℕ → List Value → Bool
is_in_directory tables root n key = (root_of tables n == root.table) && begins root.key key

-- the rows of a directory
abbrev pub directory : List Table → Root → List TableRow → List TableRow
directory tables root db = filter (λ (r : TableRow). is_in_directory tables root r.table r.key) db

-- the mutations of a directory
abbrev pub mutations_in : List Table → Root → List CheckedMutation → List CheckedMutation
mutations_in tables root ms = filter (λ (m : CheckedMutation). is_in_directory tables root m.table m.key) ms

abbrev pub key_len : List Table → ℕ → ℕ
key_len tables n = length (key_columns tables n)

-- a table, and a key with a value for each of its key columns
abbrev pub IsKeyed : List Table → ℕ → List Value → Type 0
IsKeyed tables n key = IsTable tables n × (length key ≡ key_len tables n)

-- the root row of a key of table n
abbrev pub root_row : List Table → ℕ → List Value → Root
root_row tables n key = record { table = root_of tables n; key = take (key_len tables (root_of tables n)) key }

-- rows by their tables, and those of one table in the order of its key
abbrev pub rows_cmp : List Table → TableRow → TableRow → Ordering
rows_cmp tables q r = row_order (key_columns tables r.table) q r

-- each item is before all those after it
abbrev pub IsRising : {X : Type 0} → (X → X → Ordering) → List X → Type 0
IsRising R [] = Unit {0}
IsRising R (x ∷ xs) = AllByRecursion (λ y. R x y ≡ Less) xs × IsRising R xs

-- the rows are in order, one at each key
abbrev pub IsInOrder : List Table → List TableRow → Type 0
IsInOrder tables db = IsRising (rows_cmp tables) db

-- a database: each row has a value for each key column of its table, and the rows are in order
abbrev pub IsDatabase : List Table → List TableRow → Type 0
IsDatabase tables db = IsInOrder tables db × AllByRecursion (λ (r : TableRow). IsKeyed tables r.table r.key) db

-- mutations of tables, with whole keys
abbrev pub AreKeyed : List Table → List CheckedMutation → Type 0
AreKeyed tables ms = AllByRecursion (λ (m : CheckedMutation). IsKeyed tables m.table m.key) ms

-- each directory of the database makes these of it, by its own mutations
abbrev pub RunsTo : List Table → List TableRow → List CheckedMutation → List TableRow → Type 0
RunsTo tables db ms after =
    (root : Root) → IsKeyed tables root.table root.key
    → apply tables (directory tables root db) (mutations_in tables root ms) ≡ Ok (directory tables root after)

-- the first mutation that has a fault: each directory runs up to it, and it has the same fault in its own directory
pub record FirstFault (tables : List Table) (db : List TableRow) (ms : List CheckedMutation) (why : Refusal) : Type 0
  where
    pub before : List CheckedMutation
    pub here : CheckedMutation
    pub rest : List CheckedMutation
    pub mutations : ms ≡ before ++ here ∷ rest
    pub reached : List TableRow
    pub runs : RunsTo tables db before reached
    pub fault : apply_one tables (directory tables (root_row tables here.table here.key) reached) here ≡ Err why

-- an outcome that is put together of the outcomes of the directories
abbrev pub IsPutTogether : List Table → List TableRow → List CheckedMutation → Result (List TableRow) Refusal → Type 0
IsPutTogether tables db ms (Ok after) = IsDatabase tables after × RunsTo tables db ms after
IsPutTogether tables db ms (Err why) = FirstFault tables db ms why

-- Apply's outcome on a database is the outcomes of its directories put together, the first fault included
abbrev pub RootByRoot : Type 0
RootByRoot =
    (tables : List Table) → MeetsRules tables → (db : List TableRow) (ms : List CheckedMutation) → IsDatabase tables db
    → AreKeyed tables ms
    → IsPutTogether tables db ms (apply tables db ms)

-- a database is put together of its directories in one way
abbrev pub OneDatabase : Type 0
OneDatabase =
    (tables : List Table) → MeetsRules tables → (a b : List TableRow) → IsDatabase tables a → IsDatabase tables b
    → ((root : Root) → IsKeyed tables root.table root.key → directory tables root a ≡ directory tables root b) → a ≡ b

-- rows of table n by their keys
abbrev pub by_key : List Table → ℕ → TableRow → TableRow → Ordering
by_key tables n q r = key_order (key_columns tables n) q.key r.key

-- the list of a table's rows in a database is in the order of its primary key, with one row at each key
abbrev pub RowsInOrder : Type 0
RowsInOrder =
    (tables : List Table) (db : List TableRow) → IsDatabase tables db → (n : ℕ)
    → IsRising (by_key tables n) (rows_of n db)

-- no row is without its parent row
abbrev pub HasParents : List Table → List TableRow → Type 0
HasParents tables db =
    AllByRecursion (λ (r : TableRow). lacks_parent tables (parent_of tables r.table) r.key db ≡ false) db

-- Apply leaves no row without its parent row
abbrev pub ParentsStay : Type 0
ParentsStay =
    (tables : List Table) (db : List TableRow) (ms : List CheckedMutation) (after : List TableRow)
    → IsDatabase tables db → AreKeyed tables ms → HasParents tables db
    → apply tables db ms ≡ Ok after → HasParents tables after
