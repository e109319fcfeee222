-- What is lent of a slot.
use Rattle.std.proofs.Common.{◌≡◌, ℕ, List, Some, ◌∙◌, subst}
use Rattle.std.specs.Prelude.{slice_get, count_by}
use Rattle.span_schema.specs.declared.table.Table.{Table}
use Rattle.span_shard.specs.Shard as shard
use Rattle.span_machine.specs.declared.slot.SlotState.{SlotState}
use Rattle.span_machine.specs.Machine.{is_prepared_at}
use Rattle.span_machine.specs.Pieces.{Journaled, machine_of}
use Rattle.span_parts.proofs.Applying.{live_here}
use Rattle.span_core.specs.declared.slot.SlotView.{SlotView}
use Rattle.span_core.specs.Views.{IsView}
use Rattle.span_core.specs.Whole.{Shards, State, IsDatabase}

module _ (schema : List Table) (j : Journaled) (shards : Shards) (d : IsDatabase schema j shards) (slot : ℕ) where
  -- what is lent of a slot in use and of its shard is as promised
  pub viewed : (st : State) → record { schema = schema; machine = machine_of j } ≡ st → (view : SlotView) (slot_state : SlotState) → slice_get (machine_of j).slots slot ≡ Some slot_state → slice_get shards slot ≡ Some view.shard.now
      → view.lo.now ≡ slot_state.lo → view.hi.now ≡ slot_state.hi → view.last ≡ slot_state.last → view.floor ≡ slot_state.floor → view.horizon ≡ slot_state.horizon
      → view.live ≡ shard.live view.shard.now → view.prepared ≡ count_by (is_prepared_at slot) (machine_of j).transactions → IsView st.schema st.machine slot view
  viewed st is view slot_state here there lo hi last floor horizon live prepared = subst (λ (a : State). IsView a.schema a.machine slot view) is (record {
    slot_state = slot_state;
    here = here;
    lo = lo;
    hi = hi;
    last = last;
    floor = floor;
    horizon = horizon;
    live = live ∙ live_here schema j shards d.whole slot slot_state view.shard.now here there;
    prepared = prepared;
    kept = d.whole.kept.each slot view.shard.now there;
  })
