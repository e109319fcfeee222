-- The operands of the topmost AND of a condition.
use Rattle.std.specs.Prelude.{Bool, true, false, not, List, [], ◌∷◌, ◌++◌, Option, Some, None, flat_map}
use Rattle.span_value.specs.declared.value.Value.TheVariants as value
use Rattle.span_value.specs.declared.truth.Outcome.{Outcome}
use Rattle.span_value.specs.declared.truth.Outcome.TheVariants.{Val, Fault}
use Rattle.span_expr.specs.declared.expr.Expr.{Expr}
use Rattle.span_expr.specs.declared.expr.Expr.TheOpen.{Expr-F}
use Rattle.span_expr.specs.declared.expr.Expr.TheViews.{roll-Expr}
use Rattle.span_expr.specs.declared.expr.Expr.TheFolds.{fold-Expr, map-Expr}

-- an expression, and the operands of its topmost AND
abbrev pub Split : Type 0
Split = Expr × List Expr

abbrev pub whole : Expr-F Split → Expr
whole y = roll-Expr (map-Expr Split Expr (λ (s : Split). s.0) y)

-- an AND among the operands gives its own; an expression that is no AND is its one operand
abbrev pub operands_at : Expr-F Split → List Expr
operands_at (Expr-F.And first more) = first.1 ++ flat_map (λ (s : Split). s.1) more
operands_at y = whole y ∷ []

abbrev pub split : Expr → Split
split = fold-Expr Split (λ y. (whole y, operands_at y))

abbrev pub conjuncts : Expr → List Expr
conjuncts e = (split e).1

-- neither TRUE nor the fault: as a condition, FALSE or NULL
abbrev pub is_refused : Outcome → Bool
is_refused (Val (value.Bool b)) = not b
is_refused (Val v) = true
is_refused Fault = false

-- the AND of expressions; none where there is none
abbrev pub all_true : List Expr → Option Expr
all_true [] = None
all_true (e ∷ []) = Some e
all_true (e ∷ more) = Some (roll-Expr (Expr-F.And e more))
