use Rattle.std.proofs.Common.{◌≡◌, List, length, take}
use Rattle.span_query.specs.Rows.{Row}
use Rattle.span_groups.specs.States.{AreStatesOf}
use Rattle.span_groups.proofs.counted.counted_states.Given as goal

-- the states of the aggregates so far
abbrev pub invariant-loop-aggregate : goal.invariant-loop-aggregate
invariant-loop-aggregate l = (rows : List Row) → length rows ≡ l.count → AreStatesOf (take l.aggregate-index l.aggregates) rows l.states.items
