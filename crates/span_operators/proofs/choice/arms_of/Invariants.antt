use Rattle.std.proofs.Common.{◌≡◌, map}
use Rattle.span_operators.specs.Operators.{arm_of}
use Rattle.span_operators.proofs.choice.arms_of.Given as goal

abbrev pub invariant-loop-arm : goal.invariant-loop-arm
invariant-loop-arm l = l.arms.items ≡ map arm_of l.yielded
