use Rattle.std.proofs.Common.{sym, subst, arith}
use Rattle.span_transactions.specs.Places.{AreOfSlots}
use Rattle.span_transactions.proofs.transaction.KeptTransaction.new.Goals as goal

pub invariant_of-result : goal.invariant_of-result
invariant_of-result c = record {
  room = omega (arith, c.in_ok-prepared.ensures.capacity);
  slots = subst AreOfSlots (sym c.in_ok-prepared.ensures.items) (record { once = tt; low = tt });
}
