use Rattle.std.proofs.Common.{◌∙◌, ◌++◌, Bool, List, Ordering, sym, ap}
use Rattle.span_value.specs.declared.value.Value.{Value}
use Rattle.span_value.specs.declared.truth.Outcome.TheVariants.{Val}
use Rattle.span_value.specs.declared.value.Value.TheVariants as value
use Rattle.span_expr.specs.declared.expr.Expr.{Expr}
use Rattle.span_expr.specs.Meaning.{val}
use Rattle.span_expr.specs.Operators as operators
use Rattle.span_conditions.proofs.Compared.{comparison_comes}
use Rattle.span_conditions.proofs.condition.is_any_comparison_met.Goals as goal

pub returns : goal.returns
returns c =
    let row : List Value = c.args.left.now ++ c.args.right.now in
    ap (λ (e : Expr). val row e) c.in-Compare.is
    ∙ comparison_comes row _ _ c.in-Compare.comparison c.in_ok-first.first.now c.in_ok-second.second.now
    (ap (val row) (sym c.get.ensures) ∙ c.in_ok-first.ensures.0) (ap (val row) (sym c.get-2.ensures) ∙ c.in_ok-second.ensures.0) c.in_ok-first.ensures.1 c.in_ok-second.ensures.1
    ∙ ap (λ (o : Ordering). Val (value.Bool (operators.holds c.in-Compare.comparison o))) (sym c.compare.ensures.order) ∙ ap (λ (b : Bool). Val (value.Bool b)) (sym c.holds.ensures)
