use Rattle.std.proofs.Common.{◌≡◌, ◌≤◌, count_by, take}
use Rattle.span_machine.specs.Machine.{is_undecided}
use Rattle.span_transactions.proofs.transactions.count_undecided.Given as goal

-- how many of those so far are undecided
abbrev pub invariant-loop-kept : goal.invariant-loop-kept
invariant-loop-kept l = record {
  counted : l.undecided ≡ count_by is_undecided (take l.kept-index l.transactions);
  few : l.undecided ≤ l.kept-index;
}
