-- The slots where mutations of a transaction lie.
use Rattle.std.specs.Prelude.{◌≡◌, ◌≤◌, ◌<◌, ℕ, Bool, true, false, List, find, slice_get, Option, Some, None}
use Rattle.std.specs.List.{list_any}
use Rattle.span_schema.specs.declared.table.Table.{Table}
use Rattle.span_machine.specs.Machine.{Machine, if_some, is_transaction, holds, root_at}

-- mutations of the transaction lie in the slot
abbrev pub has_mutations : List Table → Machine → ℕ → ℕ → ℕ → Bool
has_mutations schema m owner txn slot =
    if_some (find (is_transaction owner txn) m.transactions) false
    (λ t. if_some (slice_get m.slots slot) false
    (λ slot_state. list_any (λ mutation. holds schema slot_state (root_at schema mutation)) t.mutations))

-- the lowest slot from one on where mutations of the transaction lie
pub record IsNextSlot (schema : List Table) (m : Machine) (owner txn from slot : ℕ) : Type 0 where
  pub above : from ≤ slot
  pub there : has_mutations schema m owner txn slot ≡ true
  pub lowest : (i : ℕ) → from ≤ i → i < slot → has_mutations schema m owner txn i ≡ false

-- that slot, or none
abbrev pub IsNext : List Table → Machine → ℕ → ℕ → ℕ → Option ℕ → Type 0
IsNext schema m owner txn from None = (i : ℕ) → from ≤ i → has_mutations schema m owner txn i ≡ false
IsNext schema m owner txn from (Some slot) = IsNextSlot schema m owner txn from slot
