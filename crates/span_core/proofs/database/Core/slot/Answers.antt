use Rattle.std.proofs.Common.{◌≡◌, List, None, Some, length, refl, sym, subst}
use Rattle.std.specs.Prelude.{slice_get, MatchOption}
use Rattle.std.proofs.lemmas.Option.{slice_get_read, slice_get_past}
use Rattle.span_shard.specs.KeyVersions.{KeyVersions}
use Rattle.span_machine.specs.declared.slot.SlotState.{SlotState}
use Rattle.span_core.specs.Whole.{State}
use Rattle.span_core.specs.Views.{IsView}
use Rattle.span_core.proofs.Viewed.{viewed}
use Rattle.span_core.proofs.database.Core.slot.Goals as goal

pub returns-in_err-slot_state : goal.returns-in_err-slot_state
returns-in_err-slot_state c =
    let slot = c.args.slot in
    let none : slice_get c.self.inside.journal.slots slot ≡ None = subst (λ (states : List SlotState). slice_get states slot ≡ None) c.slots.ensures (slice_get_past c.slots.result.now slot c.in_err-slot_state.ensures.lookup.3) in
    let unused : slice_get c.args.self.now.machine.slots slot ≡ None = subst (λ (st : State). slice_get st.machine.slots slot ≡ None) c.self.view_is none in
    subst (λ o. MatchOption o (slice_get c.args.self.now.machine.slots slot ≡ None) (IsView c.args.self.now.schema c.args.self.now.machine slot)) (sym c.from_residual.ensures) unused

pub returns : goal.returns
returns c =
    let slot = c.args.slot in
    let slot_state = c.in_ok-slot_state.slot_state.now in
    let cs = c.in_ok-shard.shard.now in
    let looked = c.in_ok-slot_state.ensures.lookup in
    let here : slice_get c.self.inside.journal.slots slot ≡ Some slot_state = subst (λ (states : List SlotState). slice_get states slot ≡ Some slot_state) c.slots.ensures
    (slice_get_read c.slots.result.now (length c.slots.result.now) slot slot_state refl looked.3.0 looked.1) in
    let found = c.in_ok-shard.ensures.lookup in
    let there : slice_get c.self.inside.shards.items slot ≡ Some cs = subst (λ (shards : List (List KeyVersions)). slice_get shards slot ≡ Some cs) c.deref.ensures.value
    (slice_get_read c.deref.result.now (length c.deref.result.now) slot cs refl found.3.0 found.1) in
    viewed c.self.inside.schema c.self.inside.journal c.self.inside.shards.items c.self.invariant slot c.args.self.now c.self.view_is _ slot_state here there refl refl refl refl refl c.live.ensures c.count_prepared.ensures
