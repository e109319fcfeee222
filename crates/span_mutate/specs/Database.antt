-- Databases, and what mutations make of them.
--
-- A database is the list of the rows of all tables: those of table 1 in the order of its primary key, then those of
-- table 2, and so on.
use Rattle.std.specs.Prelude.{ℕ, ◌==◌, not, ◌&&◌, nat_lt, Bool, true, false, List, [], ◌∷◌, length, take, filter, Option, Some, None, is_some, is_none, Result, Ok, Err, if◌then◌else◌}
use Rattle.std.specs.List.{list_any, range_with_len}
use Rattle.std.specs.Option.{unwrap_or}
use Rattle.span_value.specs.declared.value.Value.{Value}
use Rattle.span_value.specs.declared.value.Value.TheVariants.{Null}
use Rattle.span_value.specs.declared.refusal.Refusal.{Refusal}
use Rattle.span_value.specs.declared.refusal.Refusal.TheVariants.{Exists, Missing, ParentMissing, HasChildren, RowTooLong}
use Rattle.span_schema.specs.declared.table.Table.{Table}
use Rattle.span_schema.specs.declared.table.Parent.{Parent}
use Rattle.span_value.specs.Results.{first_cause, and_then}
use Rattle.span_schema.specs.Numbers.{table_at, key_columns, parent_of, path_of}
use Rattle.span_rowcode.specs.Rows.{row_code}
use Rattle.span_rowcode.specs.Limits.{longest_row}
use Rattle.span_mutate.specs.declared.mutation.MutationKind.{MutationKind}
use Rattle.span_mutate.specs.declared.mutation.MutationKind.TheVariants.{Insert, Update}
use Rattle.span_mutate.specs.declared.mutation.CheckedMutation.{CheckedMutation}
use Rattle.span_mutate.specs.declared.row.TableRow.{TableRow}
use Rattle.span_mutate.specs.Kinds.{is_delete}
use Rattle.span_mutate.specs.Rows.{begins, row_at, with_row}

-- the value, unless something refuses it
abbrev pub unless : {A : Type 0} → Option Refusal → A → Result A Refusal
unless None x = Ok x
unless (Some why) x = Err why

-- the rows of table n, in the order of its primary key
abbrev pub rows_of : ℕ → List TableRow → List TableRow
rows_of n db = filter (λ (r : TableRow). r.table == n) db

-- table m is table n, or is below it
abbrev pub is_at_or_below : List Table → ℕ → ℕ → Bool
is_at_or_below tables n m = list_any (λ (k : ℕ). k == n) (path_of tables m)

abbrev pub all_tables : List Table → List ℕ
all_tables tables = range_with_len 1 (length tables)

-- the tables at or below table n
abbrev pub tables_under : List Table → ℕ → List ℕ
tables_under tables n = filter (is_at_or_below tables n) (all_tables tables)

abbrev pub is_cascading : Option Parent → Bool
is_cascading None = true
is_cascading (Some p) = p.cascade

abbrev pub cascades : Option Table → Bool
cascades None = true
cascades (Some t) = is_cascading t.parent

-- a row of table m stays where a row above it, of table n, is to be deleted: the table is below, without ON DELETE
-- CASCADE
abbrev pub blocks_delete : List Table → ℕ → ℕ → Bool
blocks_delete tables n m = is_at_or_below tables n m && not (m == n) && not (cascades (table_at tables m))

abbrev pub tables_blocking_delete : List Table → ℕ → List ℕ
tables_blocking_delete tables n = filter (blocks_delete tables n) (all_tables tables)

-- a row of one of the tables whose key begins with this one
abbrev pub is_in : List ℕ → List Value → TableRow → Bool
is_in ns key r = list_any (λ (n : ℕ). n == r.table) ns && begins key r.key

-- the row of table n with this key, and the rows below it
abbrev pub is_under : List Table → ℕ → List Value → TableRow → Bool
is_under tables n key r = is_in (tables_under tables n) key r

-- a row below it is of a table without ON DELETE CASCADE
abbrev pub is_delete_blocked : List Table → ℕ → List Value → List TableRow → Bool
is_delete_blocked tables n key db = list_any (is_in (tables_blocking_delete tables n) key) db

-- its parent row is absent
abbrev pub lacks_parent : List Table → Option ℕ → List Value → List TableRow → Bool
lacks_parent tables None key db = false
lacks_parent tables (Some p) key db = is_none (row_at p (take (length (key_columns tables p)) key) db)

abbrev pub cells_of : Option TableRow → List Value
cells_of None = []
cells_of (Some r) = r.cells

-- the cells of a row once those that are named have changed; what is not named is kept, or NULL where there is no row
abbrev pub merge_cells : List (Option Value) → List Value → List Value
merge_cells [] old = []
merge_cells (n ∷ ns) [] = unwrap_or n Null ∷ merge_cells ns []
merge_cells (n ∷ ns) (v ∷ vs) = unwrap_or n v ∷ merge_cells ns vs

abbrev pub cells_after : CheckedMutation → Option TableRow → List Value
cells_after m before = merge_cells m.cells (cells_of before)

abbrev pub is_insert : MutationKind → Bool
is_insert Insert = true
is_insert kind = false

abbrev pub is_update : MutationKind → Bool
is_update Update = true
is_update kind = false

-- what refuses a mutation whose key has this row, in the order of the checks
abbrev pub causes : List Table → List TableRow → CheckedMutation → Option TableRow → List (Bool × Refusal)
causes tables db m before =
    (is_insert m.kind && is_some before, Exists)
    ∷ (is_update m.kind && is_none before, Missing)
    ∷ (not (is_delete m.kind) && lacks_parent tables (parent_of tables m.table) m.key db, ParentMissing)
    ∷ (is_delete m.kind && is_some before && is_delete_blocked tables m.table m.key db, HasChildren)
    ∷ (not (is_delete m.kind) && nat_lt longest_row (length (row_code (cells_after m before))), RowTooLong)
    ∷ []

abbrev pub row_after : CheckedMutation → Option TableRow → TableRow
row_after m before = record { table = m.table; key = m.key; cells = cells_after m before }

-- the database without the row and all rows below it; an absent row changes nothing
abbrev pub without_rows : List Table → ℕ → List Value → Option TableRow → List TableRow → List TableRow
without_rows tables n key None db = db
without_rows tables n key (Some r) db = filter (λ (q : TableRow). not (is_under tables n key q)) db

-- what a mutation makes of a database in which its key has this row
abbrev pub changed : List Table → List TableRow → CheckedMutation → Option TableRow → List TableRow
changed tables db m before =
    (if is_delete m.kind then without_rows tables m.table m.key before db
    else with_row (key_columns tables m.table) (row_after m before) db)

abbrev pub apply_to : List Table → List TableRow → CheckedMutation → Option TableRow → Result (List TableRow) Refusal
apply_to tables db m before = unless (first_cause (causes tables db m before)) (changed tables db m before)

abbrev pub apply_one : List Table → List TableRow → CheckedMutation → Result (List TableRow) Refusal
apply_one tables db m = apply_to tables db m (row_at m.table m.key db)

-- the mutations one after another, up to the first fault
abbrev pub apply : List Table → List TableRow → List CheckedMutation → Result (List TableRow) Refusal
apply tables db [] = Ok db
apply tables db (m ∷ ms) = and_then (apply_one tables db m) (λ next. apply tables next ms)
