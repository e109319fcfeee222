-- The typed expression that an operator or a call makes of typed operands.
use Rattle.std.specs.Prelude.{ℕ, ℤ, pos, neg_ℤ, ◌^◌, ◌%◌, ◌&&◌, Bool, List, [], ◌∷◌, ◌++◌, map, chars, Option, Some, None, Result, Ok, Err, if◌then◌else◌}
use Rattle.std.specs.List.{list_all}
use Rattle.std.specs.Option.{option_map}
use Rattle.span_value.specs.declared.value.Value.TheVariants as value
use Rattle.span_value.specs.declared.value.Kind.{Kind}
use Rattle.span_value.specs.declared.value.Kind.TheVariants as kind
use Rattle.span_value.specs.declared.refusal.Refusal.{Refusal}
use Rattle.span_value.specs.declared.refusal.Refusal.TheVariants.{TypeMismatch, BadPattern}
use Rattle.span_trees.specs.declared.tree.Integer.{Integer}
use Rattle.span_trees.specs.declared.tree.ComparisonOperator.{ComparisonOperator}
use Rattle.span_trees.specs.declared.tree.ComparisonOperator.TheVariants as tree
use Rattle.span_trees.specs.declared.tree.Operator.{Operator}
use Rattle.span_trees.specs.declared.tree.Operator.TheVariants.{Plus, Minus, Times, Concat}
use Rattle.span_expr.specs.declared.expr.Expr.{Expr}
use Rattle.span_expr.specs.declared.expr.Expr.TheVariants as expr
use Rattle.span_expr.specs.declared.expr.Arm.{Arm}
use Rattle.span_pattern.specs.declared.pattern.PatternPart.{PatternPart}
use Rattle.span_expr.specs.declared.expr.Comparison.{Comparison as Compares}
use Rattle.span_expr.specs.declared.expr.Comparison.TheVariants as compares
use Rattle.span_expr.specs.declared.expr.Operator.{Operator as Calculates}
use Rattle.span_expr.specs.declared.expr.Operator.TheVariants.{Add, Subtract, Multiply, Divide, Modulo, Concatenate}
use Rattle.span_pattern.specs.Patterns.{parts_of}
use Rattle.span_query.specs.declared.query.Function.{Function}
use Rattle.span_query.specs.declared.query.Function.TheVariants as function
use Rattle.span_lexer.specs.LiteralValues.{text_of}
use Rattle.span_operators.specs.declared.typed.Typed.{Typed}
use Rattle.span_operators.specs.declared.typed.TypedArm.{TypedArm}
use Rattle.span_operators.specs.declared.typed.TypedLinks.{TypedLinks}
use Rattle.span_operators.specs.declared.function.CalledFunction.{CalledFunction}
use Rattle.span_operators.specs.declared.function.CalledFunction.TheVariants as called
use Rattle.span_operators.specs.Kinds.{takes, common_kind, common_kind_of_all, or_int, text_kind}
use Rattle.span_value.specs.Results.{and_then}

abbrev pub of_kind : Expr → Kind → Typed
of_kind e k = record { expr = e; kind = Some k }

abbrev pub kinds_of : List Typed → List (Option Kind)
kinds_of xs = map (λ (x : Typed). x.kind) xs

abbrev pub exprs_of : List Typed → List Expr
exprs_of xs = map (λ (x : Typed). x.expr) xs

-- ---- literals

-- the number that an integer is in INT64; no integer of a text is 2^63 or more (span_lexer's law integers_are_int64)
abbrev pub number_of : Integer → ℤ
number_of n = let v : ℤ = pos (n.value % 2 ^ 63) in if n.is_negative then neg_ℤ v else v

unfoldable pub integer : Integer → Typed
integer n = of_kind (expr.Literal (value.Int (number_of n))) kind.Int

-- ---- operators

unfoldable pub unary_minus : Typed → Result Typed Refusal
unary_minus x = if takes kind.Int x.kind then Ok (of_kind (expr.Negative x.expr) kind.Int) else Err TypeMismatch

unfoldable pub logical_not : Typed → Result Typed Refusal
logical_not x = if takes kind.Bool x.kind then Ok (of_kind (expr.Not x.expr) kind.Bool) else Err TypeMismatch

unfoldable pub null_test : Typed → Typed
null_test x = of_kind (expr.IsNull x.expr) kind.Bool

unfoldable pub comparison_of : ComparisonOperator → Compares
comparison_of tree.Equal = compares.Equal
comparison_of tree.NotEqual = compares.NotEqual
comparison_of tree.Less = compares.Less
comparison_of tree.AtMost = compares.AtMost
comparison_of tree.Greater = compares.Greater
comparison_of tree.AtLeast = compares.AtLeast

unfoldable pub comparison_test : ComparisonOperator → Typed → Typed → Result Typed Refusal
comparison_test c x y =
    and_then (common_kind x.kind y.kind) (λ k. Ok (of_kind (expr.Compare x.expr (comparison_of c) y.expr) kind.Bool))

-- the operands are checked together
unfoldable pub between : Typed → Typed → Typed → Result Typed Refusal
between x low high =
    and_then (common_kind_of_all (x.kind ∷ low.kind ∷ high.kind ∷ []))
    (λ k. Ok (of_kind (expr.Between x.expr low.expr high.expr) kind.Bool))

unfoldable pub in_list : Typed → List Typed → Result Typed Refusal
in_list x members =
    and_then (common_kind_of_all (x.kind ∷ kinds_of members))
    (λ k. Ok (of_kind (expr.In x.expr (exprs_of members)) kind.Bool))

abbrev pub like_test_of : Expr → Option (List PatternPart) → Result Typed Refusal
like_test_of e None = Err BadPattern
like_test_of e (Some parts) = Ok (of_kind (expr.Like e parts) kind.Bool)

-- the pattern is a string literal as it is spelt
unfoldable pub like_test : List ℕ → Typed → Result Typed Refusal
like_test spelled x =
    if takes kind.Str x.kind then like_test_of x.expr (parts_of (chars (text_of spelled))) else Err TypeMismatch

-- the operands of an AND or an OR
abbrev pub are_conditions : Option Kind → Option Kind → Bool
are_conditions j k = takes kind.Bool j && takes kind.Bool k

unfoldable pub operator_of : Operator → Calculates
operator_of Plus = Add
operator_of Minus = Subtract
operator_of Times = Multiply
operator_of Concat = Concatenate

-- the type of a chain, one operator on
unfoldable pub link_kind : Operator → Option Kind → Option Kind → Result Kind Refusal
link_kind Concat j k = and_then (common_kind j k) text_kind
link_kind op j k = if takes kind.Int j && takes kind.Int k then Ok kind.Int else Err TypeMismatch

-- a chain, one operator on
unfoldable pub append_link : TypedLinks → Operator → Typed → Result TypedLinks Refusal
append_link c op x =
    and_then (link_kind op c.kind x.kind)
    (λ k. Ok (record {
      kind = Some k;
      links = c.links ++ (record { operator = operator_of op; operand = x.expr } ∷ []);
    }))

unfoldable pub chain_of : Typed → TypedLinks → Typed
chain_of x c = record { expr = expr.Chain x.expr c.links; kind = c.kind }

-- ---- choices

abbrev pub arm_of : TypedArm → Arm Expr
arm_of a = record { condition = a.condition.expr; value = a.value.expr }

abbrev pub otherwise_kind : Option Typed → Option Kind
otherwise_kind None = None
otherwise_kind (Some x) = x.kind

abbrev pub otherwise_of : Option Typed → Option Expr
otherwise_of other = option_map (λ (x : Typed). x.expr) other

-- the one type of the values of all arms and of ELSE
abbrev pub value_kind : List TypedArm → Option Typed → Result Kind Refusal
value_kind arms other =
    and_then (common_kind_of_all (otherwise_kind other ∷ map (λ (a : TypedArm). a.value.kind) arms))
    (λ k. Ok (or_int k))

abbrev pub has_condition : TypedArm → Bool
has_condition a = takes kind.Bool a.condition.kind

abbrev pub case_kind : List TypedArm → Option Typed → Result Kind Refusal
case_kind arms other = if list_all has_condition arms then value_kind arms other else Err TypeMismatch

unfoldable pub case_of : List TypedArm → Option Typed → Result Typed Refusal
case_of arms other =
    and_then (case_kind arms other) (λ k. Ok (of_kind (expr.Case (map arm_of arms) (otherwise_of other)) k))

unfoldable pub match_of : Typed → List TypedArm → Option Typed → Result Typed Refusal
match_of x arms other =
    and_then (value_kind arms other) (λ k. Ok (of_kind (expr.Match x.expr (map arm_of arms) (otherwise_of other)) k))

-- ---- calls

unfoldable pub calculation_of : Calculates → Typed → Typed → Result Typed Refusal
calculation_of op x y =
    if takes kind.Int x.kind && takes kind.Int y.kind
    then Ok (of_kind (expr.Chain x.expr (record { operator = op; operand = y.expr } ∷ [])) kind.Int)
    else Err TypeMismatch

unfoldable pub length_of : Typed → Result Typed Refusal
length_of x = and_then (text_kind x.kind) (λ k. Ok (of_kind (expr.Length x.expr) kind.Int))

unfoldable pub starts_with : Typed → Typed → Result Typed Refusal
starts_with x front =
    and_then (and_then (common_kind x.kind front.kind) text_kind)
    (λ k. Ok (of_kind (expr.StartsWith x.expr front.expr) kind.Bool))

unfoldable pub coalesce_of : List Typed → Result Typed Refusal
coalesce_of xs =
    and_then (common_kind_of_all (kinds_of xs)) (λ k. Ok (of_kind (expr.Coalesce (exprs_of xs)) (or_int k)))

-- ---- operands by their number; a wrong number is a wrong type

abbrev pub one_of : List Typed → Result Typed Refusal
one_of (x ∷ []) = Ok x
one_of xs = Err TypeMismatch

abbrev pub two_of : List Typed → Result (Typed × Typed) Refusal
two_of (x ∷ y ∷ []) = Ok (x, y)
two_of xs = Err TypeMismatch

abbrev pub three_of : List Typed → Result (Typed × Typed × Typed) Refusal
three_of (x ∷ y ∷ z ∷ []) = Ok (x, y, z)
three_of xs = Err TypeMismatch

abbrev pub some_of : List Typed → Result (List Typed) Refusal
some_of [] = Err TypeMismatch
some_of (x ∷ xs) = Ok (x ∷ xs)

-- `IF(c, x, y)` is `CASE WHEN c THEN x ELSE y END`
unfoldable pub if_of : Typed → Typed → Typed → Result Typed Refusal
if_of c x y = case_of (record { condition = c; value = x } ∷ []) (Some y)

-- a call of a function but the aggregates
unfoldable pub apply_function : CalledFunction → List Typed → Result Typed Refusal
apply_function called.Divide xs = and_then (two_of xs) (λ p. calculation_of Divide p.0 p.1)
apply_function called.Modulo xs = and_then (two_of xs) (λ p. calculation_of Modulo p.0 p.1)
apply_function called.Length xs = and_then (one_of xs) length_of
apply_function called.StartsWith xs = and_then (two_of xs) (λ p. starts_with p.0 p.1)
apply_function called.If xs = and_then (three_of xs) (λ p. if_of p.0 p.1 p.2)
apply_function called.IfNull xs = and_then (two_of xs) (λ p. coalesce_of (p.0 ∷ p.1 ∷ []))
apply_function called.Coalesce xs = and_then (some_of xs) coalesce_of
apply_function (called.Aggregate f) xs = Err TypeMismatch

-- ---- aggregates

-- SUM takes INT64 alone
abbrev pub operand_for : Function → Typed → Result Typed Refusal
operand_for function.Sum x = if takes kind.Int x.kind then Ok x else Err TypeMismatch
operand_for f x = Ok x

unfoldable pub operand_of : Function → List Typed → Result Typed Refusal
operand_of f xs = and_then (one_of xs) (operand_for f)

unfoldable pub aggregate_kind : Function → Option Kind → Kind
aggregate_kind function.Min k = or_int k
aggregate_kind function.Max k = or_int k
aggregate_kind f k = kind.Int
