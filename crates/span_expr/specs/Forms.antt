-- Forms of expressions that a planner looks for: columns, literals, and equalities of two columns.
use Rattle.std.specs.Prelude.{ℕ, ◌==◌, Bool, false, ◌&&◌, ◌||◌, Option, Some, None}
use Rattle.span_value.specs.declared.value.Value.{Value}
use Rattle.span_expr.specs.declared.expr.Comparison.{Comparison}
use Rattle.span_expr.specs.declared.expr.Comparison.TheVariants.{Equal}
use Rattle.span_expr.specs.declared.expr.Expr.{Expr}
use Rattle.span_expr.specs.declared.expr.Expr.TheOpen.{Expr-F}
use Rattle.span_expr.specs.declared.expr.Expr.TheViews.{out-Expr}

abbrev pub column_at : Expr-F Expr → Option ℕ
column_at (Expr-F.Column place) = Some place
column_at y = None

-- the place of a column
abbrev pub as_column : Expr → Option ℕ
as_column e = column_at (out-Expr e)

abbrev pub literal_at : Expr-F Expr → Option Value
literal_at (Expr-F.Literal v) = Some v
literal_at y = None

-- the value of a literal
abbrev pub as_literal : Expr → Option Value
as_literal e = literal_at (out-Expr e)

abbrev pub both_places : Option ℕ → Option ℕ → Option (ℕ × ℕ)
both_places (Some i) (Some k) = Some (i, k)
both_places i k = None

abbrev pub places_if_equal : Comparison → Option ℕ → Option ℕ → Option (ℕ × ℕ)
places_if_equal Equal i k = both_places i k
places_if_equal c i k = None

abbrev pub equality_at : Expr-F Expr → Option (ℕ × ℕ)
equality_at (Expr-F.Compare a c b) = places_if_equal c (as_column a) (as_column b)
equality_at y = None

-- the places of the two columns of an expression `column = column`
abbrev pub as_equality : Expr → Option (ℕ × ℕ)
as_equality e = equality_at (out-Expr e)

abbrev pub are_places : ℕ → ℕ → Option (ℕ × ℕ) → Bool
are_places i k None = false
are_places i k (Some p) = ((p.0 == i) && (p.1 == k)) || ((p.0 == k) && (p.1 == i))

-- an equality of the columns at two places, either first
abbrev pub is_equality : ℕ → ℕ → Expr → Bool
is_equality i k e = are_places i k (as_equality e)
