-- The directories that mutations touch. Apply looks at no other rows, and changes no other rows.
use Rattle.std.specs.Prelude.{◌≡◌, ℕ, not, Bool, List, filter, Result, Ok, Err}
use Rattle.std.specs.List.{list_any}
use Rattle.span_value.specs.declared.value.Value.{Value}
use Rattle.span_value.specs.declared.refusal.Refusal.{Refusal}
use Rattle.span_schema.specs.declared.table.Table.{Table}
use Rattle.span_schema.specs.Lineages.{MeetsRules}
use Rattle.span_mutate.specs.declared.mutation.CheckedMutation.{CheckedMutation}
use Rattle.span_mutate.specs.declared.row.TableRow.{TableRow}
use Rattle.span_mutate.specs.Database.{apply}
use Rattle.span_mutate.specs.Directories.{is_in_directory, root_row, IsDatabase, AreKeyed}

-- a key of table n is in the directory of the root row of one of the mutations
abbrev pub is_touched : List Table → List CheckedMutation → ℕ → List Value → Bool
is_touched tables ms n key =
    list_any (λ (m : CheckedMutation). is_in_directory tables (root_row tables m.table m.key) n key) ms

-- the rows of the touched directories
abbrev pub touched : List Table → List CheckedMutation → List TableRow → List TableRow
touched tables ms db = filter (λ (r : TableRow). is_touched tables ms r.table r.key) db

-- the other rows
abbrev pub untouched : List Table → List CheckedMutation → List TableRow → List TableRow
untouched tables ms db = filter (λ (r : TableRow). not (is_touched tables ms r.table r.key)) db

-- the same fault; or the same rows in the touched directories, and in each the other rows that it had
abbrev pub IsSameOutcome : List Table → List CheckedMutation → List TableRow → List TableRow
    → Result (List TableRow) Refusal → Result (List TableRow) Refusal → Type 0
IsSameOutcome tables ms a b (Ok x) (Ok y) =
    (touched tables ms x ≡ touched tables ms y) × (untouched tables ms x ≡ untouched tables ms a)
    × (untouched tables ms y ≡ untouched tables ms b)
IsSameOutcome tables ms a b (Ok x) (Err w) = ⊥
IsSameOutcome tables ms a b (Err v) (Ok y) = ⊥
IsSameOutcome tables ms a b (Err v) (Err w) = v ≡ w

-- databases with the same touched directories have the same outcome
abbrev pub TouchedAlone : Type 0
TouchedAlone =
    (tables : List Table) → MeetsRules tables → (a b : List TableRow) (ms : List CheckedMutation) → IsDatabase tables a
    → IsDatabase tables b → AreKeyed tables ms
    → touched tables ms a ≡ touched tables ms b → IsSameOutcome tables ms a b (apply tables a ms) (apply tables b ms)
