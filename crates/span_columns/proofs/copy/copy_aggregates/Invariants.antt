use Rattle.std.proofs.Common.{◌≡◌, ◌++◌, drop}
use Rattle.span_columns.proofs.copy.copy_aggregates.Given as goal

abbrev pub invariant-loop-aggregate : goal.invariant-loop-aggregate
invariant-loop-aggregate l = l.aggregates ≡ l.copies ++ drop l.aggregate-index l.aggregates
