-- Which slot the directory of a mutation is in, and where a transaction is prepared.
use Rattle.std.specs.Prelude.{◌≡◌, ℕ, ◌<◌, Bool, false, ◌&&◌, List, [], ◌∷◌, map, slice_get, nat_eq, ⊤}
use Rattle.std.specs.List.{list_any, AllByRecursion}
use Rattle.span_schema.specs.declared.table.Table.{Table}
use Rattle.span_mutate.specs.declared.mutation.CheckedMutation.{CheckedMutation}
use Rattle.span_machine.specs.declared.slot.SlotState.{SlotState}
use Rattle.span_machine.specs.declared.transaction.Prepared.{Prepared}
use Rattle.span_machine.specs.Limits.{most_slots}
use Rattle.span_machine.specs.Machine.{holds, is_at, root_at, if_some}

-- the slot is in use, and the directory of the mutation is in it
abbrev pub slot_has : List Table → List SlotState → CheckedMutation → ℕ → Bool
slot_has schema slots m slot =
    if_some (slice_get slots slot) false (λ slot_state. holds schema slot_state (root_at schema m))

-- a directory that lies in the slot has mutations of both lists
abbrev pub share_directory_in : List Table → SlotState → List CheckedMutation → List CheckedMutation → Bool
share_directory_in schema slot_state ms ns =
    list_any (λ m. holds schema slot_state (root_at schema m) && list_any (is_at schema (root_at schema m)) ns) ms

-- the slots where a transaction is prepared
abbrev pub slots_of : List Prepared → List ℕ
slots_of ps = map (λ (p : Prepared). p.slot) ps

-- no two of the numbers are equal
abbrev pub AreDifferent : List ℕ → Type 0
AreDifferent [] = ⊤
AreDifferent (n ∷ ns) = AllByRecursion (λ m. nat_eq n m ≡ false) ns × AreDifferent ns

-- a transaction is prepared once at each of these slots, which may all be in use
pub record AreOfSlots (ps : List Prepared) : Type 0 where
  pub once : AreDifferent (slots_of ps)
  pub low : AllByRecursion (λ (slot : ℕ). slot < most_slots) (slots_of ps)
