-- The directories of mutations by the coded keys of their root rows.
use Rattle.std.specs.Prelude.{◌≡◌, ℕ, Bool, ◌&&◌, ◌||◌, List, length, if◌then◌else◌}
use Rattle.std.specs.List.{list_any}
use Rattle.span_schema.specs.declared.table.Table.{Table}
use Rattle.span_keycode.specs.Order.{is_same}
use Rattle.span_keycode.specs.Keys.{IsKey}
use Rattle.span_mutate.specs.declared.mutation.CheckedMutation.{CheckedMutation}
use Rattle.span_machine.specs.declared.slot.SlotState.{SlotState}
use Rattle.span_machine.specs.declared.transaction.OpenTransaction.{OpenTransaction}
use Rattle.span_machine.specs.Machine.{is_prepared_at}
use Rattle.span_machine.specs.Slots.{holds, is_at, root_at, root_code}

-- how many mutations the transaction has, if it is prepared at the slot
abbrev pub count_mutations_at : ℕ → OpenTransaction → ℕ
count_mutations_at slot t = if is_prepared_at slot t then length t.mutations else 0

-- the root row of the mutation's directory has a key that can be coded
abbrev pub HasRootKey : List Table → CheckedMutation → Type 0
HasRootKey schema m = IsKey schema (root_at schema m).table (root_at schema m).key

-- the bytes are the coding of that key
abbrev pub IsRootKey : List Table → CheckedMutation → List ℕ → Type 0
IsRootKey schema m key = HasRootKey schema m × (key ≡ root_code schema (root_at schema m))

-- a mutation is in the directory of another one, which lies in the slot
abbrev pub is_in_held_directory : List Table → SlotState → CheckedMutation → CheckedMutation → Bool
is_in_held_directory schema slot_state n m =
    holds schema slot_state (root_at schema m) && is_at schema (root_at schema m) n

-- the coded key of the mutation's directory is among these
abbrev pub has_directory : List Table → List (List ℕ) → CheckedMutation → Bool
has_directory schema keys m = list_any (is_same (root_code schema (root_at schema m))) keys

-- by its coded key, a directory is found among these where it is one of those of the mutations, and lies in the slot
abbrev pub AreDirectories : List Table → SlotState → List CheckedMutation → List (List ℕ) → Type 0
AreDirectories schema slot_state ms keys =
    (n : CheckedMutation) → HasRootKey schema n
    → has_directory schema keys n ≡ list_any (is_in_held_directory schema slot_state n) ms

-- the directory of one more mutation is among these, where it lies in the slot
abbrev pub AddsDirectory : List Table → SlotState → CheckedMutation → List (List ℕ) → List (List ℕ) → Type 0
AddsDirectory schema slot_state m old new =
    (n : CheckedMutation) → HasRootKey schema n
    → has_directory schema new n ≡ (has_directory schema old n || is_in_held_directory schema slot_state n m)
