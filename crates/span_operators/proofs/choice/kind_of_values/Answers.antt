use Rattle.std.proofs.Common.{rules, ◌≡◌, map, sym, ◌∙◌, None, Err}
use Rattle.span_operators.specs.declared.typed.TypedArm.{TypedArm}
use Rattle.span_operators.specs.Kinds.{common_kind, common_kind_with}
use Rattle.span_operators.proofs.Agreement.{agreed_refused}
use Rattle.span_operators.proofs.choice.kind_of_values.Goals as goal

pub returns-in_err-kind-2 : goal.returns-in_err-kind-2
returns-in_err-kind-2 c =
    let whole : common_kind_with (map (λ (a : TypedArm). a.value.kind) c.args.arms.now) (common_kind None c.args.first) ≡ Err c.in_err-kind-2.field-0.0 =
    c.loop-arm.invariant ∙ agreed_refused (λ (a : TypedArm). a.value.kind) c.args.arms.now c.loop-arm.arm-index c.arm-item.result c.loop-arm.kind c.in_err-kind-2.field-0.0 c.loop-arm-test.true c.arm-item.is (sym c.common_kind-in-loop-arm.ensures ∙ c.in_err-kind-2.was) in
    search (rules, whole)
