use Rattle.std.proofs.Common.{◌++◌}
use Rattle.span_conditions.proofs.Compared.{NoneSoFar}
use Rattle.span_conditions.proofs.condition.is_any_met.Given as goal

-- all so far are FALSE
abbrev pub invariant-loop-condition : goal.invariant-loop-condition
invariant-loop-condition l = NoneSoFar (l.left ++ l.right) l.first l.more l.condition-index
