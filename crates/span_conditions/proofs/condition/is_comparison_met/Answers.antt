use Rattle.std.proofs.Common.{rules, ◌≡◌, ◌∙◌, ◌++◌, ℤ, Bool, List, sym, ap, refl, w64}
use Rattle.std.proofs.lemmas.Int.{to_z-of_z}
use mir.Val.{to_z, of_z}
use Rattle.span_value.specs.declared.value.Value.{Value}
use Rattle.span_value.specs.declared.truth.Outcome.TheVariants.{Val}
use Rattle.span_value.specs.declared.value.Value.TheVariants as value
use Rattle.span_value.specs.Orders.{value_order}
use Rattle.span_expr.specs.declared.expr.Comparison.{Comparison}
use Rattle.span_expr.specs.declared.expr.Expr.{Expr}
use Rattle.span_expr.specs.Meaning.{val}
use Rattle.span_expr.specs.Operators as operators
use Rattle.span_conditions.proofs.Compared.{comparison_comes}
use Rattle.span_conditions.proofs.condition.is_comparison_met.Goals as goal

pub returns-in-Some-Some : goal.returns-in-Some-Some
returns-in-Some-Some c =
    let row : List Value = c.args.left.now ++ c.args.right.now in
    let how : Comparison = c.in-Compare.comparison in
    let a : ℤ = c.in-Some-Some.a in
    let b : ℤ = c.in-Some-Some.b in
    let met : c.is_number_met.result ≡ operators.holds how (value_order (value.Int a) (value.Int b)) =
    c.is_number_met.ensures
    ∙ ap (λ (z : ℤ). operators.holds how (value_order (value.Int z) (value.Int (to_z w64 (of_z w64 b))))) (to_z-of_z w64 a (search rules))
    ∙ ap (λ (z : ℤ). operators.holds how (value_order (value.Int a) (value.Int z))) (to_z-of_z w64 b (search rules)) in
    ap (λ (e : Expr). val row e) c.in-Compare.is
    ∙ comparison_comes row _ _ how (value.Int a) (value.Int b) (ap (val row) (sym c.get.ensures) ∙ c.in-Some-Some.ensures) (ap (val row) (sym c.get-2.ensures) ∙ c.in-Some-Some.ensures') refl refl
    ∙ ap (λ (b : Bool). Val (value.Bool b)) (sym met)
