use Rattle.std.proofs.Common.{take}
use Rattle.span_groups.specs.States.{AreStatesOf}
use Rattle.span_groups.proofs.one_group.states_of.Given as goal

-- the states of the rows so far
abbrev pub invariant-loop-at : goal.invariant-loop-at
invariant-loop-at l = AreStatesOf l.aggregates (take l.at l.rows) l.states.items
