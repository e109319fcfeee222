use Rattle.std.proofs.Common.{◌≡◌, ◌++◌, map, drop}
use Rattle.span_expr.specs.Places.{rank}
use Rattle.span_columns.specs.Narrow.{moved_aggregate}
use Rattle.span_columns.proofs.narrow.move_aggregates.Given as goal

abbrev pub invariant-loop-aggregate : goal.invariant-loop-aggregate
invariant-loop-aggregate l =
    map (moved_aggregate (rank l.mask)) l.aggregates ≡ l.copies ++ map (moved_aggregate (rank l.mask)) (drop l.aggregate-index l.aggregates)
