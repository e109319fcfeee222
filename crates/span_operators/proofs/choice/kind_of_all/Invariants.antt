use Rattle.std.proofs.Common.{◌≡◌, drop, None, Ok}
use Rattle.span_operators.specs.Kinds.{common_kind, common_kind_with}
use Rattle.span_operators.specs.Operators.{kinds_of}
use Rattle.span_operators.proofs.choice.kind_of_all.Given as goal

abbrev pub invariant-loop-operand : goal.invariant-loop-operand
invariant-loop-operand l = common_kind_with (kinds_of l.operands) (common_kind None l.fn.first) ≡ common_kind_with (kinds_of (drop l.operand-index l.operands)) (Ok l.kind)
