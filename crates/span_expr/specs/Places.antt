-- The columns that an expression reads, by their places.
use Rattle.std.specs.Prelude.{ℕ, zero, suc, nat_le, nat_lt, Bool, true, false, ◌&&◌, List, [], ◌∷◌}
use Rattle.std.specs.List.{list_all}
use Rattle.span_expr.specs.declared.expr.Expr.{Expr}
use Rattle.span_expr.specs.declared.expr.Expr.TheOpen.{Expr-F}
use Rattle.span_expr.specs.declared.expr.Expr.TheViews.{roll-Expr}
use Rattle.span_expr.specs.declared.expr.Expr.TheFolds.{fold-Expr}
use Rattle.span_expr.specs.declared.expr.Link.{Link}
use Rattle.span_expr.specs.declared.expr.Arm.{Arm}
use Rattle.span_expr.specs.Meaning.{or_true, is_total_arm}

abbrev pub link_operand : Link Bool → Bool
link_operand link = link.operand

-- one operator, where each operand is replaced by whether its columns pass
abbrev pub reads_at : (ℕ → Bool) → Expr-F Bool → Bool
reads_at test (Expr-F.Literal v) = true
reads_at test (Expr-F.Column place) = test place
reads_at test (Expr-F.Negative a) = a
reads_at test (Expr-F.Chain first links) = first && list_all link_operand links
reads_at test (Expr-F.Compare a c b) = a && b
reads_at test (Expr-F.Between a low high) = a && low && high
reads_at test (Expr-F.In a members) = a && list_all (λ b. b) members
reads_at test (Expr-F.Like a pattern) = a
reads_at test (Expr-F.StartsWith a front) = a && front
reads_at test (Expr-F.Length a) = a
reads_at test (Expr-F.IsNull a) = a
reads_at test (Expr-F.Not a) = a
reads_at test (Expr-F.And first more) = first && list_all (λ b. b) more
reads_at test (Expr-F.Or first more) = first && list_all (λ b. b) more
reads_at test (Expr-F.Case arms otherwise) = list_all is_total_arm arms && or_true otherwise
reads_at test (Expr-F.Match a arms otherwise) = a && list_all is_total_arm arms && or_true otherwise
reads_at test (Expr-F.Coalesce operands) = list_all (λ b. b) operands

-- each column of the expression passes the test
abbrev pub reads_only : (ℕ → Bool) → Expr → Bool
reads_only test = fold-Expr Bool (reads_at test)

abbrev pub move_at : (ℕ → ℕ) → Expr-F Expr → Expr
move_at f (Expr-F.Column place) = roll-Expr (Expr-F.Column (f place))
move_at f y = roll-Expr y

-- the expression with each column at another place
abbrev pub moved : (ℕ → ℕ) → Expr → Expr
moved f = fold-Expr Expr (move_at f)

-- how many of the places before a place a mask has; after its end each place counts
abbrev pub rank : List Bool → ℕ → ℕ
rank [] place = place
rank (m ∷ ms) zero = zero
rank (true ∷ ms) (suc place) = suc (rank ms place)
rank (false ∷ ms) (suc place) = rank ms place

-- a place from the one on, and before the other
abbrev pub is_in : ℕ → ℕ → ℕ → Bool
is_in low high place = nat_le low place && nat_lt place high

-- a link and an arm, with whether the columns of their operands pass
abbrev pub reads_link : (ℕ → Bool) → Link Expr → Link Bool
reads_link test link = record { operator = link.operator; operand = reads_only test link.operand }

abbrev pub reads_arm : (ℕ → Bool) → Arm Expr → Arm Bool
reads_arm test arm = record { condition = reads_only test arm.condition; value = reads_only test arm.value }

-- a link and an arm, with the columns of their operands at other places
abbrev pub moved_link : (ℕ → ℕ) → Link Expr → Link Expr
moved_link f link = record { operator = link.operator; operand = moved f link.operand }

abbrev pub moved_arm : (ℕ → ℕ) → Arm Expr → Arm Expr
moved_arm f arm = record { condition = moved f arm.condition; value = moved f arm.value }
