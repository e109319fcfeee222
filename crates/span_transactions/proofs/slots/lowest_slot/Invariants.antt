use Rattle.std.proofs.Common.{◌≡◌, drop}
use Rattle.span_machine.specs.Machine.{lowest_slot}
use Rattle.span_transactions.proofs.slots.lowest_slot.Given as goal

abbrev pub invariant-loop-p : goal.invariant-loop-p
invariant-loop-p l = lowest_slot l.least (drop l.p-index l.prepared) ≡ lowest_slot l.fn.slot l.prepared
