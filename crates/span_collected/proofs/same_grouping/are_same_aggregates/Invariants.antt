use Rattle.std.proofs.Common.{◌≡◌, take}
use Rattle.span_collected.proofs.same_grouping.are_same_aggregates.Given as goal

abbrev pub invariant-loop-at : goal.invariant-loop-at
invariant-loop-at l = take l.at l.aggregates ≡ take l.at l.others
