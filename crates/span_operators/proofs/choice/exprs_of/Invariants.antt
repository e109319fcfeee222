use Rattle.std.proofs.Common.{◌≡◌}
use Rattle.span_operators.specs.Operators.{exprs_of}
use Rattle.span_operators.proofs.choice.exprs_of.Given as goal

abbrev pub invariant-loop-operand : goal.invariant-loop-operand
invariant-loop-operand l = l.exprs.items ≡ exprs_of l.yielded
