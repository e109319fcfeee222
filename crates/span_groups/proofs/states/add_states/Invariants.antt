use Rattle.span_groups.proofs.AddedStates.{AreAddedTo}
use Rattle.span_groups.proofs.states.add_states.Given as goal

abbrev pub invariant-loop-aggregate : goal.invariant-loop-aggregate
invariant-loop-aggregate l = AreAddedTo l.aggregates l.aggregate-index l.fn.states.items l.states.items
