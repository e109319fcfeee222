use Rattle.std.proofs.Common.{◌≡◌, ◌≤◌, take}
use Rattle.std.specs.List.{sum_by}
use Rattle.span_transactions.specs.declared.conflict.TheConstants.{FEW_MUTATIONS}
use Rattle.span_transactions.specs.Conflicts.{count_mutations_at}
use Rattle.span_transactions.proofs.conflict.have_few_mutations.Given as goal

-- how many mutations those so far have
abbrev pub invariant-loop-kept : goal.invariant-loop-kept
invariant-loop-kept l = record {
  counted : l.count ≡ sum_by (count_mutations_at l.slot) (take l.kept-index l.transactions);
  few : l.count ≤ FEW_MUTATIONS;
}
