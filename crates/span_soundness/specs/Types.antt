-- Of which types an expression is at rows of some types. A NULL literal is of every type.
use Rattle.std.specs.Prelude.{◌≡◌, Bool, true, false, ◌&&◌, ◌||◌, List, [], ◌∷◌, Option, Some, None, slice_get}
use Rattle.std.specs.List.{list_all}
use denote.Enum.Bare.{sameb}
use Rattle.span_value.specs.contracts.value.Kind.{the_type as kind_type}
use Rattle.span_value.specs.declared.value.Kind.{Kind}
use Rattle.span_value.specs.declared.value.Kind.TheVariants as kind
use Rattle.span_value.specs.declared.value.Value.{Value}
use Rattle.span_value.specs.declared.value.Value.TheVariants as value
use Rattle.span_value.specs.declared.truth.Outcome.{Outcome}
use Rattle.span_value.specs.declared.truth.Outcome.TheVariants.{Val, Fault}
use Rattle.span_schema.specs.Fitting.{is_of_kind}
use Rattle.span_expr.specs.declared.expr.Operator.{Operator}
use Rattle.span_expr.specs.declared.expr.Operator.TheVariants.{Concatenate}
use Rattle.span_expr.specs.declared.expr.Link.{Link}
use Rattle.span_expr.specs.declared.expr.Arm.{Arm}
use Rattle.span_expr.specs.declared.expr.Expr.{Expr}
use Rattle.span_expr.specs.declared.expr.Expr.TheOpen.{Expr-F}
use Rattle.span_expr.specs.declared.expr.Expr.TheFolds.{fold-Expr}

-- ---- values and rows

-- a value of the type, NULL, or the fault
abbrev pub IsOutcomeOf : Kind → Outcome → Type 0
IsOutcomeOf k (Val v) = is_of_kind k v ≡ true
IsOutcomeOf k Fault = Unit {0}

-- NULL is answered only where this is so
abbrev pub IsNullOnlyIf : Bool → Outcome → Type 0
IsNullOnlyIf b (Val value.Null) = b ≡ true
IsNullOnlyIf b o = Unit {0}

-- as many values as types, each NULL or of its type
abbrev pub IsRowOf : List Kind → List Value → Type 0
IsRowOf [] [] = Unit {0}
IsRowOf (k ∷ ks) (v ∷ vs) = (is_of_kind k v ≡ true) × IsRowOf ks vs
IsRowOf ks vs = ⊥

-- ---- types

abbrev pub are_same : Kind → Kind → Bool
are_same j k = sameb kind_type j k

abbrev pub is_text : Kind → Bool
is_text kind.Str = true
is_text kind.Bytes = true
is_text k = false

-- the type of the operands and of the result: that of two strings or of two BYTES, or else INT64
abbrev pub is_operand : Operator → Kind → Bool
is_operand Concatenate k = is_text k
is_operand op k = are_same kind.Int k

-- ---- expressions

-- of which types something is
abbrev pub Typing : Type 0
Typing = Kind → Bool

-- of some type
abbrev pub has_type : Typing → Bool
has_type operand = operand kind.Int || operand kind.Str || operand kind.Bytes || operand kind.Bool

abbrev pub all_are : List Typing → Kind → Bool
all_are operands k = list_all (λ (operand : Typing). operand k) operands

-- the operands of an AND or an OR; one alone may be of any type
abbrev pub are_conditions : Typing → List Typing → Bool
are_conditions first [] = has_type first
are_conditions first (second ∷ more) = first kind.Bool && all_are (second ∷ more) kind.Bool

abbrev pub is_some : Option Kind → Kind → Bool
is_some None k = false
is_some (Some j) k = are_same j k

abbrev pub is_link_of : Kind → Link Typing → Bool
is_link_of k link = is_operand link.operator k && link.operand k

abbrev pub has_condition : Arm Typing → Bool
has_condition arm = arm.condition kind.Bool

-- a type that the arm's condition has with the operand of the CASE
abbrev pub is_compared_with : Typing → Arm Typing → Bool
is_compared_with operand arm = has_type (λ j. operand j && arm.condition j)

abbrev pub has_value : Kind → Arm Typing → Bool
has_value k arm = arm.value k

abbrev pub is_else_of : Kind → Option Typing → Bool
is_else_of k None = true
is_else_of k (Some operand) = operand k

abbrev pub all_values_are : List (Arm Typing) → Option Typing → Kind → Bool
all_values_are arms otherwise k = list_all (has_value k) arms && is_else_of k otherwise

-- One operator, where each operand is replaced by its types.
abbrev pub typing_at : List Kind → Expr-F Typing → Typing
typing_at types (Expr-F.Literal v) k = is_of_kind k v
typing_at types (Expr-F.Column place) k = is_some (slice_get types place) k
typing_at types (Expr-F.Negative a) k = are_same kind.Int k && a kind.Int
typing_at types (Expr-F.Chain first links) k = first k && list_all (is_link_of k) links
typing_at types (Expr-F.Compare a c b) k = are_same kind.Bool k && has_type (λ j. a j && b j)
typing_at types (Expr-F.Between a low high) k = are_same kind.Bool k && has_type (λ j. a j && low j && high j)
typing_at types (Expr-F.In a members) k = are_same kind.Bool k && has_type (λ j. a j && all_are members j)
typing_at types (Expr-F.Like a pattern) k = are_same kind.Bool k && a kind.Str
typing_at types (Expr-F.StartsWith a front) k = are_same kind.Bool k && has_type (λ j. is_text j && a j && front j)
typing_at types (Expr-F.Length a) k = are_same kind.Int k && has_type (λ j. is_text j && a j)
typing_at types (Expr-F.IsNull a) k = are_same kind.Bool k && has_type a
typing_at types (Expr-F.Not a) k = are_same kind.Bool k && a kind.Bool
typing_at types (Expr-F.And first more) k = are_same kind.Bool k && are_conditions first more
typing_at types (Expr-F.Or first more) k = are_same kind.Bool k && are_conditions first more
typing_at types (Expr-F.Case arms otherwise) k = list_all has_condition arms && all_values_are arms otherwise k
typing_at types (Expr-F.Match a arms otherwise) k =
    has_type a && list_all (is_compared_with a) arms && all_values_are arms otherwise k
typing_at types (Expr-F.Coalesce operands) k = all_are operands k

-- whether an expression is of a type at rows of these types
abbrev pub is_of : List Kind → Expr → Typing
is_of types = fold-Expr Typing (typing_at types)
