use Rattle.std.proofs.Common.{◌≡◌, max, drop}
use Rattle.span_machine.specs.Machine.{greatest}
use Rattle.span_transactions.proofs.slots.greatest_timestamp.Given as goal

abbrev pub invariant-loop-p : goal.invariant-loop-p
invariant-loop-p l = max l.most (greatest (drop l.p-index l.prepared)) ≡ greatest l.prepared
