-- What is lent of a slot.
use Rattle.std.specs.Prelude.{◌≡◌, ℕ, List, Some, slice_get, count_by}
use Rattle.span_schema.specs.declared.table.Table.{Table}
use Rattle.span_machine.specs.declared.slot.SlotState.{SlotState}
use Rattle.span_machine.specs.Kept.{live}
use Rattle.span_machine.specs.Machine.{Machine, is_prepared_at}
use Rattle.span_version_laws.specs.Kept.{AreKept}
use Rattle.span_core.specs.declared.slot.SlotView.{SlotView}

-- the slot is in use: its range and timestamps, how many versions it keeps, how many transactions are prepared there,
-- and its shard, which has the versions that the slot keeps of the commits
pub record IsView (schema : List Table) (m : Machine) (slot : ℕ) (view : SlotView) : Type 0 where
  pub slot_state : SlotState
  pub here : slice_get m.slots slot ≡ Some slot_state
  pub lo : view.lo.now ≡ slot_state.lo
  pub hi : view.hi.now ≡ slot_state.hi
  pub last : view.last ≡ slot_state.last
  pub floor : view.floor ≡ slot_state.floor
  pub horizon : view.horizon ≡ slot_state.horizon
  pub live : view.live ≡ live schema m.log m.transactions slot slot_state
  pub prepared : view.prepared ≡ count_by (is_prepared_at slot) m.transactions
  pub kept : AreKept schema m slot view.shard.now
