use Rattle.std.proofs.Common.{◌≡◌, ◌≤◌, count_by, take}
use Rattle.span_machine.specs.Machine.{is_prepared_at}
use Rattle.span_transactions.proofs.transactions.count_prepared.Given as goal

-- how many of those so far are prepared at the slot
abbrev pub invariant-loop-kept : goal.invariant-loop-kept
invariant-loop-kept l = record {
  counted : l.prepared ≡ count_by (is_prepared_at l.slot) (take l.kept-index l.transactions);
  few : l.prepared ≤ l.kept-index;
}
