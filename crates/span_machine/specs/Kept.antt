-- Kept versions: what a slot keeps of the changes that commits make.
use Rattle.std.specs.Prelude.{ℕ, ◌+◌, ◌^◌, ◌==◌, Bool, true, false, not, ◌&&◌, ◌||◌, nat_lt, nat_le, List, [], ◌∷◌, ◌++◌, length, map, filter, sum_by, Option, Some, None, is_some, Result, Ok, Err, if◌then◌else◌}
use Rattle.std.specs.List.{list_any}
use Rattle.std.specs.Str.{bytes_eq}
use Rattle.span_value.specs.declared.refusal.Refusal.{Refusal}
use Rattle.span_schema.specs.declared.table.Table.{Table}
use Rattle.span_keycode.specs.Keys.{key_code}
use Rattle.span_rowcode.specs.Rows.{row_code}
use Rattle.span_mutate.specs.declared.mutation.CheckedMutation.{CheckedMutation}
use Rattle.span_mutate.specs.declared.row.TableRow.{TableRow}
use Rattle.span_mutate.specs.Database.{apply}
use Rattle.span_machine.specs.declared.slot.SlotState.{SlotState}
use Rattle.span_machine.specs.declared.transaction.Commit.{Commit}
use Rattle.span_machine.specs.declared.transaction.OpenTransaction.{OpenTransaction}
use Rattle.span_machine.specs.declared.transaction.Decision.{Decision}
use Rattle.span_machine.specs.declared.transaction.Decision.TheVariants.{Committed}
use Rattle.span_machine.specs.Slots.{has_key, mutations_in}
use Rattle.span_machine.specs.Sorting.{in_order}
use Rattle.span_machine.specs.Tables.{is_before}

-- ---- changes

-- A commit changed the row at a key: the coding of the key, the commit timestamp, and the packed row that it left
-- there, none for a deletion.
pub record Change : Type 0 where
  pub key : List ℕ
  pub timestamp : ℕ
  pub row : Option (List ℕ)

abbrev pub code_of : List Table → TableRow → List ℕ
code_of schema r = key_code schema r.table r.key

abbrev pub has_same_key : List Table → TableRow → TableRow → Bool
has_same_key schema q r = bytes_eq (code_of schema q) (code_of schema r)

abbrev pub is_same : List Table → TableRow → TableRow → Bool
is_same schema q r = has_same_key schema q r && bytes_eq (row_code q.cells) (row_code r.cells)

abbrev pub put_at : List Table → ℕ → TableRow → Change
put_at schema ts r = record { key = code_of schema r; timestamp = ts; row = Some (row_code r.cells) }

abbrev pub deletion_at : List Table → ℕ → TableRow → Change
deletion_at schema ts r = record { key = code_of schema r; timestamp = ts; row = None }

-- the rows after that were not the same before, and the keys of rows before that have no row after
abbrev pub changes_between : List Table → ℕ → List TableRow → List TableRow → List Change
changes_between schema ts before after =
    map (put_at schema ts) (filter (λ r. not (list_any (is_same schema r) before)) after)
    ++ map (deletion_at schema ts) (filter (λ r. not (list_any (has_same_key schema r) after)) before)

-- a database after mutations, where they have no fault
abbrev pub ok_or : Result (List TableRow) Refusal → List TableRow → List TableRow
ok_or (Ok after) db = after
ok_or (Err why) db = db

abbrev pub after_mutations : List Table → List TableRow → List CheckedMutation → List TableRow
after_mutations schema db ms = ok_or (apply schema db ms) db

-- what commits change, one after another
abbrev pub changes_from : List Table → List TableRow → List Commit → List Change
changes_from schema db [] = []
changes_from schema db (c ∷ cs) =
    changes_between schema c.timestamp db (after_mutations schema db c.mutations)
    ++ changes_from schema (after_mutations schema db c.mutations) cs

abbrev pub database_after : List Table → List TableRow → List Commit → List TableRow
database_after schema db [] = db
database_after schema db (c ∷ cs) = database_after schema (after_mutations schema db c.mutations) cs

-- what the commits of a log change, in the order of their timestamps
abbrev pub changes_of : List Table → List Commit → List Change
changes_of schema log = changes_from schema [] (in_order is_before log)

-- the database of all the commits of a log
abbrev pub database_of : List Table → List Commit → List TableRow
database_of schema log = database_after schema [] (in_order is_before log)

-- ---- what is kept of them

-- it changed the same key later, and at or below the horizon
abbrev pub hides : ℕ → Change → Change → Bool
hides horizon c d = bytes_eq c.key d.key && nat_lt c.timestamp d.timestamp && nat_le d.timestamp horizon

-- above the horizon every change is kept; at or below it the newest of its key, unless that is a deletion
abbrev pub is_kept : ℕ → List Change → Change → Bool
is_kept horizon cs c = nat_lt horizon c.timestamp || (is_some c.row && not (list_any (hides horizon c) cs))

abbrev pub kept : ℕ → List Change → List Change
kept horizon cs = filter (is_kept horizon cs) cs

-- ---- how many

abbrev pub is_committed : Decision → Bool
is_committed (Committed ts) = true
is_committed o = false

-- how many changes mutations make of a database
abbrev pub count_changes : List Table → List TableRow → List CheckedMutation → ℕ
count_changes schema db ms = length (changes_between schema 0 db (after_mutations schema db ms))

-- the changes of keys in the slot's range
abbrev pub changes_in : SlotState → List Change → List Change
changes_in slot_state cs = filter (λ (c : Change). has_key slot_state c.key) cs

-- how many changes the transaction has prepared in the slot, where it is not committed: its commit's are among those of
-- the log
abbrev pub count_prepared_changes : List Table → List TableRow → ℕ → SlotState → OpenTransaction → ℕ
count_prepared_changes schema db slot slot_state t =
    if list_any (λ p. p.slot == slot) t.prepared && not (is_committed t.decision)
    then count_changes schema db (mutations_in schema slot_state t.mutations) else 0

-- how many versions a slot with this state keeps: one for each kept change of a key in its range, also one that is
-- prepared and not applied yet
abbrev pub live : List Table → List Commit → List OpenTransaction → ℕ → SlotState → ℕ
live schema log transactions slot slot_state =
    length (kept slot_state.horizon (changes_in slot_state (changes_of schema log)))
    + sum_by (count_prepared_changes schema (database_of schema log) slot slot_state) transactions

-- the most versions that a slot may keep
abbrev pub most_versions : ℕ
most_versions = 2 ^ 24

-- how many versions the slot would keep once the mutations, all of its range, are prepared there too
abbrev pub live_with : List Table → List Commit → List OpenTransaction → ℕ → SlotState → List CheckedMutation → ℕ
live_with schema log transactions slot slot_state ms =
    live schema log transactions slot slot_state + count_changes schema (database_of schema log) ms
