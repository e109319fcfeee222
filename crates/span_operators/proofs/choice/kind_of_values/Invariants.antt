use Rattle.std.proofs.Common.{◌≡◌, drop, map, None, Ok}
use Rattle.span_operators.specs.declared.typed.TypedArm.{TypedArm}
use Rattle.span_operators.specs.Kinds.{common_kind, common_kind_with}
use Rattle.span_operators.proofs.choice.kind_of_values.Given as goal

abbrev pub invariant-loop-arm : goal.invariant-loop-arm
invariant-loop-arm l = common_kind_with (map (λ (a : TypedArm). a.value.kind) l.arms) (common_kind None l.fn.first) ≡ common_kind_with (map (λ (a : TypedArm). a.value.kind) (drop l.arm-index l.arms)) (Ok l.kind)
