use Rattle.std.proofs.Common.{◌++◌}
use Rattle.span_conditions.proofs.Compared.{AllSoFar}
use Rattle.span_conditions.proofs.condition.are_all_met.Given as goal

-- all so far are TRUE
abbrev pub invariant-loop-condition : goal.invariant-loop-condition
invariant-loop-condition l = AllSoFar (l.left ++ l.right) l.first l.more l.condition-index
