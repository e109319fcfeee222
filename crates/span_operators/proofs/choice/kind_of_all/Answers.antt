use Rattle.std.proofs.Common.{rules, ◌≡◌, map, sym, ◌∙◌, None, Err}
use Rattle.span_operators.specs.declared.typed.Typed.{Typed}
use Rattle.span_operators.specs.Kinds.{common_kind, common_kind_with}
use Rattle.span_operators.proofs.Agreement.{agreed_refused}
use Rattle.span_operators.proofs.choice.kind_of_all.Goals as goal

pub returns-in_err-kind-2 : goal.returns-in_err-kind-2
returns-in_err-kind-2 c =
    let whole : common_kind_with (map (λ (x : Typed). x.kind) c.args.operands.now) (common_kind None c.args.first) ≡ Err c.in_err-kind-2.field-0.0 =
    c.loop-operand.invariant ∙ agreed_refused (λ (x : Typed). x.kind) c.args.operands.now c.loop-operand.operand-index c.operand-item.result c.loop-operand.kind c.in_err-kind-2.field-0.0 c.loop-operand-test.true c.operand-item.is (sym c.common_kind-in-loop-operand.ensures ∙ c.in_err-kind-2.was) in
    search (rules, whole)
