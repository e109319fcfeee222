-- The typed expression of a syntax tree, or the first fault in it: operands come before their operator.
use Rattle.std.specs.Prelude.{ℕ, ◌+◌, ◌==◌, Bool, List, [], ◌∷◌, ◌++◌, length, drop, position, slice_get, Option, Some, None, Result, Ok, Err, if◌then◌else◌}
use Rattle.span_value.specs.declared.value.Value.TheVariants as value
use Rattle.span_value.specs.declared.value.Kind.{Kind}
use Rattle.span_value.specs.declared.value.Kind.TheVariants as kind
use Rattle.span_value.specs.declared.refusal.Refusal.{Refusal}
use Rattle.span_value.specs.declared.refusal.Refusal.TheVariants.{TypeMismatch, NotGrouped, NoParameter}
use Rattle.span_trees.specs.declared.tree.Column.{Column}
use Rattle.span_trees.specs.declared.tree.Operator.{Operator}
use Rattle.span_trees.specs.declared.tree.Expr.{Expr}
use Rattle.span_trees.specs.declared.tree.Arm.{Arm}
use Rattle.span_trees.specs.declared.tree.Link.{Link as TreeLink}
use Rattle.span_trees.specs.declared.tree.Expr.TheOpen.{Expr-F, Arm-F, Link-F}
use Rattle.span_trees.specs.declared.tree.Expr.TheFolds.{fold-Expr}
use Rattle.span_expr.specs.declared.expr.Expr.TheVariants as expr
use Rattle.span_expr.specs.declared.expr.Expr.{Expr as TypedExpr}
use Rattle.span_query.specs.declared.query.Aggregate.{Aggregate}
use Rattle.span_query.specs.declared.query.Aggregate.TheVariants.{CountRows, Of}
use Rattle.span_query.specs.declared.query.Function.{Function}
use Rattle.span_query.specs.declared.query.Function.TheVariants.{Count}
use Rattle.span_lexer.specs.LiteralValues.{text_of, bytes_of}
use Rattle.span_params.specs.declared.params.Parameter.{Parameter}
use Rattle.span_params.specs.Parameters.{parameter_named}
use Rattle.span_operators.specs.declared.typed.Typed.{Typed}
use Rattle.span_operators.specs.declared.typed.TypedArm.{TypedArm}
use Rattle.span_operators.specs.declared.typed.TypedLinks.{TypedLinks}
use Rattle.span_operators.specs.declared.typed.Mode.{Mode}
use Rattle.span_operators.specs.declared.typed.Mode.TheVariants.{Rows, Groups}
use Rattle.span_typing.specs.declared.scope.Scope.{Scope}
use Rattle.span_typing.specs.declared.scope.ScopeColumn.{ScopeColumn}
use Rattle.span_operators.specs.declared.function.CalledFunction.{CalledFunction}
use Rattle.span_operators.specs.declared.function.CalledFunction.TheVariants as called
use Rattle.span_operators.specs.Kinds.{common_kind}
use Rattle.span_typing.specs.Scopes.{column_place}
use Rattle.span_operators.specs.Functions.{function_named}
use Rattle.span_value.specs.Results.{and_then}
use Rattle.span_operators.specs.Steps.{TypingStep, pure, from_result, ◌>>=◌, fold_steps, all_of}
use Rattle.span_operators.specs.Operators.{of_kind, integer, unary_minus, logical_not, null_test, comparison_test, between, in_list, like_test, are_conditions, append_link, chain_of, case_of, match_of, apply_function, operand_of, aggregate_kind}

-- ---- literals, columns and parameters

unfoldable pub string : List ℕ → Typed
string spelled = of_kind (expr.Literal (value.Str (text_of spelled))) kind.Str

unfoldable pub bytes : List ℕ → Typed
bytes spelled = of_kind (expr.Literal (value.Bytes (bytes_of spelled))) kind.Bytes

abbrev pub truth : Bool → Typed
truth b = of_kind (expr.Literal (value.Bool b)) kind.Bool

abbrev pub null : Typed
null = record { expr = expr.Literal value.Null; kind = None }

abbrev pub or_number : Option ScopeColumn → Kind
or_number None = kind.Int
or_number (Some c) = c.kind

abbrev pub kind_at : Scope → ℕ → Kind
kind_at scope place = or_number (slice_get scope.columns place)

abbrev pub key_typed : Kind → Option ℕ → Result Typed Refusal
key_typed k None = Err NotGrouped
key_typed k (Some place) = Ok (of_kind (expr.Column place) k)

-- at a row of the groups there are only the grouped columns
unfoldable pub column_at : Scope → Mode → ℕ → Result Typed Refusal
column_at scope Rows place = Ok (of_kind (expr.Column place) (kind_at scope place))
column_at scope Groups place = key_typed (kind_at scope place) (position (λ (k : ℕ). k == place) scope.keys)

unfoldable pub column : Scope → Mode → Column → Result Typed Refusal
column scope m c = and_then (column_place scope c) (column_at scope m)

abbrev pub parameter_typed : Option Parameter → Result Typed Refusal
parameter_typed None = Err NoParameter
parameter_typed (Some p) = Ok (of_kind (expr.Literal p.value) p.kind)

-- it is spelt with its @
unfoldable pub parameter : List Parameter → List ℕ → Result Typed Refusal
parameter params spelled = parameter_typed (parameter_named params (drop 1 spelled))

-- ---- lists of operands

-- it may find more aggregates of the block
abbrev pub Finds : Type 0 → Type 0
Finds A = TypingStep (List Aggregate) A

-- the typed form of an operand, at rows of the FROM or of the groups
abbrev pub Operand : Type 0
Operand = Mode → Finds Typed

abbrev pub each : List Operand → Mode → Finds (List Typed)
each os m = all_of (λ (a : Operand). a m) os

unfoldable pub condition_of : Option Kind → Typed → Result TypedExpr Refusal
condition_of k x = if are_conditions k x.kind then Ok x.expr else Err TypeMismatch

abbrev pub condition : Option Kind → Operand → Mode → Finds TypedExpr
condition k a m = a m >>= (λ x. from_result (condition_of k x))

-- the other operands of an AND or an OR whose first is of this type; each is checked as it comes
abbrev pub conditions : Option Kind → List Operand → Mode → Finds (List TypedExpr)
conditions k os m = all_of (λ (a : Operand). condition k a m) os

unfoldable pub all_true : Typed → List TypedExpr → Typed
all_true x es = of_kind (expr.And x.expr es) kind.Bool

unfoldable pub some_true : Typed → List TypedExpr → Typed
some_true x es = of_kind (expr.Or x.expr es) kind.Bool

abbrev pub next_link : Mode → TypedLinks → Operator × Operand → Finds TypedLinks
next_link m c l = l.1 m >>= (λ x. from_result (append_link c l.0 x))

-- after an operand of this type; each operator is checked as it comes
abbrev pub links : Option Kind → List (Operator × Operand) → Mode → Finds TypedLinks
links k ls m = fold_steps (next_link m) (record { kind = k; links = [] }) ls

abbrev pub arm_typed : Typed → Typed → TypedArm
arm_typed c v = record { condition = c; value = v }

abbrev pub arm : Operand × Operand → Mode → Finds TypedArm
arm a m = a.0 m >>= (λ c. a.1 m >>= (λ v. from_result (Ok (arm_typed c v))))

abbrev pub arms : List (Operand × Operand) → Mode → Finds (List TypedArm)
arms os m = all_of (λ (a : Operand × Operand). arm a m) os

-- what is of the type of the operand of the CASE
unfoldable pub check_kind : Option Kind → Typed → Result Typed Refusal
check_kind k x = and_then (common_kind k x.kind) (λ j. Ok x)

-- a WHEN is compared with the operand, of this type, before its THEN
abbrev pub compared_arm : Option Kind → Operand × Operand → Mode → Finds TypedArm
compared_arm k a m =
    a.0 m >>= (λ x. from_result (check_kind k x)) >>= (λ c. a.1 m >>= (λ v. from_result (Ok (arm_typed c v))))

abbrev pub compared_arms : Option Kind → List (Operand × Operand) → Mode → Finds (List TypedArm)
compared_arms k os m = all_of (λ (a : Operand × Operand). compared_arm k a m) os

abbrev pub optional : Option Operand → Mode → Finds (Option Typed)
optional None m = pure None
optional (Some a) m = a m >>= (λ x. from_result (Ok (Some x)))

-- ---- what is made of operands: they come before their operator

unfoldable pub of_one : (Typed → Result Typed Refusal) → Operand → Operand
of_one make a m = a m >>= (λ x. from_result (make x))

unfoldable pub of_two : (Typed → Typed → Result Typed Refusal) → Operand → Operand → Operand
of_two make a b m = a m >>= (λ x. b m >>= (λ y. from_result (make x y)))

unfoldable pub of_three : (Typed → Typed → Typed → Result Typed Refusal) → Operand → Operand → Operand → Operand
of_three make a b c m = a m >>= (λ x. b m >>= (λ y. c m >>= (λ z. from_result (make x y z))))

unfoldable pub membership : Operand → List Operand → Operand
membership a os m = a m >>= (λ x. each os m >>= (λ ys. from_result (in_list x ys)))

unfoldable pub chain : Operand → List (Operator × Operand) → Operand
chain a ls m = a m >>= (λ x. links x.kind ls m >>= (λ c. from_result (Ok (chain_of x c))))

-- an AND or an OR
unfoldable pub junction : (Typed → List TypedExpr → Typed) → Operand → List Operand → Operand
junction join a os m = a m >>= (λ x. conditions x.kind os m >>= (λ es. from_result (Ok (join x es))))

-- a CASE without an operand
unfoldable pub searched_case : List (Operand × Operand) → Option Operand → Operand
searched_case os other m = arms os m >>= (λ xs. optional other m >>= (λ y. from_result (case_of xs y)))

-- a CASE with an operand
unfoldable pub simple_case : Operand → List (Operand × Operand) → Option Operand → Operand
simple_case a os other m =
    a m >>= (λ x. compared_arms x.kind os m >>= (λ xs. optional other m >>= (λ y. from_result (match_of x xs y))))

abbrev pub case : Option Operand → List (Operand × Operand) → Option Operand → Operand
case None os other = searched_case os other
case (Some a) os other = simple_case a os other

-- ---- calls

-- the place of a new aggregate, at rows of the groups
unfoldable pub next_place : Scope → Mode → List Aggregate → Result ℕ Refusal
next_place scope Rows found = Err NotGrouped
next_place scope Groups found = Ok (length scope.keys + length found)

-- a new aggregate of the block; its place is after the grouped columns and the aggregates before it
unfoldable pub new_aggregate : Scope → Mode → Aggregate → Kind → Finds Typed
new_aggregate scope Rows a k found = Err NotGrouped
new_aggregate scope Groups a k found =
    Ok (of_kind (expr.Column (length scope.keys + length found)) k, found ++ (a ∷ []))

unfoldable pub aggregate : Scope → Mode → Function → List Typed → Finds Typed
aggregate scope m f xs =
    from_result (operand_of f xs) >>= (λ x. new_aggregate scope m (Of f x.expr) (aggregate_kind f x.kind))

-- a call of a name that is no function
unfoldable pub unknown_call : List Operand → Operand
unknown_call os m = each os m >>= (λ xs. from_result (Err TypeMismatch))

-- the operand of an aggregate is at rows of the FROM
unfoldable pub aggregate_call : Scope → Function → List Operand → Operand
aggregate_call scope f os m = each os Rows >>= aggregate scope m f

unfoldable pub function_call : CalledFunction → List Operand → Operand
function_call f os m = each os m >>= (λ xs. from_result (apply_function f xs))

abbrev pub call : Scope → Option CalledFunction → List Operand → Operand
call scope None os = unknown_call os
call scope (Some (called.Aggregate f)) os = aggregate_call scope f os
call scope (Some f) os = function_call f os

-- COUNT alone takes a star
unfoldable pub call_star : Scope → Option CalledFunction → Operand
call_star scope (Some (called.Aggregate Count)) m = new_aggregate scope m CountRows kind.Int
call_star scope f m = from_result (Err TypeMismatch)

-- ---- trees

abbrev pub arm_at : Arm-F Operand (Operand × Operand) (Operator × Operand) → Operand × Operand
arm_at a = (a.condition, a.value)

abbrev pub link_at : Link-F Operand (Operand × Operand) (Operator × Operand) → Operator × Operand
link_at l = (l.operator, l.operand)

-- One layer of a tree, where each operand is replaced by its typed form.
abbrev pub at_operands : Scope → List Parameter → Expr-F Operand (Operand × Operand) (Operator × Operand) → Operand
at_operands scope params (Expr-F.Integer n) = λ m. pure (integer n)
at_operands scope params (Expr-F.Str s) = λ m. pure (string s.text)
at_operands scope params (Expr-F.Bytes s) = λ m. pure (bytes s.text)
at_operands scope params (Expr-F.Truth b place) = λ m. pure (truth b)
at_operands scope params (Expr-F.Null place) = λ m. pure null
at_operands scope params (Expr-F.Parameter p) = λ m. from_result (parameter params p.text)
at_operands scope params (Expr-F.Column c) = λ m. from_result (column scope m c)
at_operands scope params (Expr-F.CallStar name) = call_star scope (function_named name.text)
at_operands scope params (Expr-F.Call name os) = call scope (function_named name.text) os
at_operands scope params (Expr-F.Case a os other) = case a os other
at_operands scope params (Expr-F.Negative a) = of_one unary_minus a
at_operands scope params (Expr-F.Chain a ls) = chain a ls
at_operands scope params (Expr-F.Compare a c b) = of_two (comparison_test c) a b
at_operands scope params (Expr-F.IsNull a) = of_one (λ x. Ok (null_test x)) a
at_operands scope params (Expr-F.Like a pattern) = of_one (like_test pattern.text) a
at_operands scope params (Expr-F.Between a low high) = of_three between a low high
at_operands scope params (Expr-F.In a os) = membership a os
at_operands scope params (Expr-F.Not a) = of_one logical_not a
at_operands scope params (Expr-F.And a os) = junction all_true a os
at_operands scope params (Expr-F.Or a os) = junction some_true a os

-- the typed form of a tree in a block of these names, with these parameters
abbrev pub typing : Scope → List Parameter → Expr → Operand
typing scope params =
    fold-Expr Operand (Operand × Operand) (Operator × Operand) (at_operands scope params) arm_at link_at

abbrev pub arm_typing : Scope → List Parameter → Arm → Operand × Operand
arm_typing scope params a = (typing scope params a.condition, typing scope params a.value)

abbrev pub link_typing : Scope → List Parameter → TreeLink → Operator × Operand
link_typing scope params l = (l.operator, typing scope params l.operand)
