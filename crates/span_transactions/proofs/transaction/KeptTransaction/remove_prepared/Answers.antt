use Rattle.std.proofs.Common.{◌==◌, not, sym, subst, arith}
use Rattle.span_machine.specs.declared.transaction.Prepared.{Prepared}
use Rattle.span_transactions.specs.Places.{AreOfSlots}
use Rattle.span_transactions.proofs.PreparedOnce.{once_fewer}
use Rattle.span_transactions.proofs.transaction.KeptTransaction.remove_prepared.Goals as goal

pub invariant_of-self : goal.invariant_of-self
invariant_of-self c = record {
  room = omega (arith, c.self.invariant.room, c.keep_other_slots.ensures.capacity);
  slots = subst AreOfSlots (sym c.keep_other_slots.ensures.items) (once_fewer (λ (p : Prepared). not (p.slot == c.args.slot)) c.self.inside.prepared.items c.self.invariant.slots);
}
