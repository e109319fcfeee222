-- Where evaluating may run out of memory: only at the operator `||`, which makes a string.
use Rattle.std.specs.Prelude.{Bool, true, false, ◌||◌, Result, Ok, Err, Option, Some, None, List, map, IsTrue}
use Rattle.std.specs.List.{list_any}
use Rattle.span_expr.specs.declared.cell.Failure.{Failure}
use Rattle.span_expr.specs.declared.cell.Failure.TheVariants.{Fault, OutOfMemory}
use Rattle.span_expr.specs.declared.expr.Expr.{Expr}
use Rattle.span_expr.specs.declared.expr.Expr.TheOpen.{Expr-F}
use Rattle.span_expr.specs.declared.expr.Expr.TheFolds.{fold-Expr}
use Rattle.span_expr.specs.declared.expr.Link.{Link}
use Rattle.span_expr.specs.declared.expr.Arm.{Arm}
use Rattle.span_expr.specs.declared.expr.Operator.{Operator}
use Rattle.span_expr.specs.declared.expr.Operator.TheVariants.{Concatenate}

abbrev pub is_concatenation : Operator → Bool
is_concatenation Concatenate = true
is_concatenation op = false

abbrev pub concatenation_in_link : Link Bool → Bool
concatenation_in_link link = is_concatenation link.operator || link.operand

abbrev pub concatenation_in_arm : Arm Bool → Bool
concatenation_in_arm arm = arm.condition || arm.value

abbrev pub in_some : Option Bool → Bool
in_some None = false
in_some (Some b) = b

-- One operator, where each operand is replaced by whether it has a `||`.
abbrev pub concatenation_at : Expr-F Bool → Bool
concatenation_at (Expr-F.Literal v) = false
concatenation_at (Expr-F.Column place) = false
concatenation_at (Expr-F.Negative a) = a
concatenation_at (Expr-F.Chain first links) = first || list_any concatenation_in_link links
concatenation_at (Expr-F.Compare a c b) = a || b
concatenation_at (Expr-F.Between a low high) = a || low || high
concatenation_at (Expr-F.In a members) = a || list_any (λ b. b) members
concatenation_at (Expr-F.Like a pattern) = a
concatenation_at (Expr-F.StartsWith a front) = a || front
concatenation_at (Expr-F.Length a) = a
concatenation_at (Expr-F.IsNull a) = a
concatenation_at (Expr-F.Not a) = a
concatenation_at (Expr-F.And first more) = first || list_any (λ b. b) more
concatenation_at (Expr-F.Or first more) = first || list_any (λ b. b) more
concatenation_at (Expr-F.Case arms otherwise) = list_any concatenation_in_arm arms || in_some otherwise
concatenation_at (Expr-F.Match a arms otherwise) = a || list_any concatenation_in_arm arms || in_some otherwise
concatenation_at (Expr-F.Coalesce operands) = list_any (λ b. b) operands

-- whether an expression has a `||`, itself or in an operand
abbrev pub has_concatenation : Expr → Bool
has_concatenation = fold-Expr Bool concatenation_at

-- a link and an arm, with whether their operands have one
abbrev pub link_concatenation : Link Expr → Link Bool
link_concatenation link = record { operator = link.operator; operand = has_concatenation link.operand }

abbrev pub arm_concatenation : Arm Expr → Arm Bool
arm_concatenation arm = record { condition = has_concatenation arm.condition; value = has_concatenation arm.value }

-- whether one of several has a `||`
abbrev pub any_concatenation : List Expr → Bool
any_concatenation operands = list_any (λ b. b) (map has_concatenation operands)

abbrev pub any_link_concatenation : List (Link Expr) → Bool
any_link_concatenation links = list_any concatenation_in_link (map link_concatenation links)

abbrev pub any_arm_concatenation : List (Arm Expr) → Bool
any_arm_concatenation arms = list_any concatenation_in_arm (map arm_concatenation arms)

-- ---- what was answered

abbrev pub is_memory : Failure → Bool
is_memory Fault = false
is_memory OutOfMemory = true

abbrev pub is_out_of_memory : {A : Type 0} → Result A Failure → Bool
is_out_of_memory (Ok found) = false
is_out_of_memory (Err why) = is_memory why

-- memory ran out only where this is so
abbrev pub RunsOutOnlyIf : {A : Type 0} → Result A Failure → Bool → Type 0
RunsOutOnlyIf result b = IsTrue (is_out_of_memory result) → IsTrue b
