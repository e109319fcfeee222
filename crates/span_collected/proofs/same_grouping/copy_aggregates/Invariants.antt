use Rattle.std.proofs.Common.{◌≡◌, take}
use Rattle.span_collected.proofs.same_grouping.copy_aggregates.Given as goal

abbrev pub invariant-loop-aggregate : goal.invariant-loop-aggregate
invariant-loop-aggregate l = take l.aggregate-index l.aggregates ≡ l.copies.items
