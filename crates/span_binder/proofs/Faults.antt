-- A tree is refused for its names, its types and its groups: 10 to 20.
use Rattle.std.proofs.Common.{sym, subst, true, false, Bool, ◌&&◌, if◌then◌else◌, List, [], ◌∷◌, ◌++◌, map, drop, ℕ, ◌+◌, Option, Some, None, Result, Ok, Err, arith}
use Rattle.std.specs.Prelude.{chars, position}
use Rattle.std.specs.List.{fold, list_all, AllByRecursion}
use Rattle.span_value.specs.declared.value.Kind.{Kind}
use Rattle.span_value.specs.declared.value.Kind.TheVariants as kind
use Rattle.span_value.specs.declared.refusal.Refusal.{Refusal}
use Rattle.span_value.specs.declared.refusal.Refusal.TheVariants as refusal
use Rattle.span_value.specs.Results.{and_then}
use Rattle.span_trees.specs.declared.tree.Column.{Column}
use Rattle.span_trees.specs.declared.tree.Spelling.{Spelling}
use Rattle.span_trees.specs.declared.tree.Operator.{Operator}
use Rattle.span_trees.specs.declared.tree.Operator.TheVariants.{Plus, Minus, Times, Concat}
use Rattle.span_trees.specs.declared.tree.ComparisonOperator.{ComparisonOperator}
use Rattle.span_trees.specs.declared.tree.Expr.{Expr}
use Rattle.span_trees.specs.declared.tree.Arm.{Arm, fold-Arm, map-Arm, roll-Arm}
use Rattle.span_trees.specs.declared.tree.Link.{Link, fold-Link, map-Link, roll-Link}
use Rattle.span_trees.specs.declared.tree.Expr.TheOpen.{Expr-F, Arm-F, Link-F}
use Rattle.span_trees.specs.declared.tree.Expr.TheViews.{roll-Expr}
use Rattle.span_trees.specs.declared.tree.Expr.TheFolds.{ind-Expr, map-Expr, fold-roll-Expr, fold-roll-Arm, fold-roll-Link}
use Rattle.span_expr.specs.declared.expr.Expr.{Expr as TypedExpr}
use Rattle.span_pattern.specs.declared.pattern.PatternPart.{PatternPart}
use Rattle.span_expr.specs.declared.expr.Operator.{Operator as Calculates}
use Rattle.span_expr.specs.declared.expr.Operator.TheVariants.{Divide, Modulo}
use Rattle.span_pattern.specs.Patterns.{parts_of}
use Rattle.span_query.specs.declared.query.Aggregate.{Aggregate}
use Rattle.span_query.specs.declared.query.Aggregate.TheVariants.{CountRows, Of}
use Rattle.span_query.specs.declared.query.Function.{Function}
use Rattle.span_query.specs.declared.query.Function.TheVariants.{Count, Sum, Min, Max}
use Rattle.span_lexer.specs.LiteralValues.{text_of}
use Rattle.span_params.specs.declared.params.Parameter.{Parameter}
use Rattle.span_params.specs.Parameters.{parameter_named}
use Rattle.span_typing.specs.declared.scope.Scope.{Scope}
use Rattle.span_operators.specs.declared.typed.Typed.{Typed}
use Rattle.span_operators.specs.declared.typed.TypedArm.{TypedArm}
use Rattle.span_operators.specs.declared.typed.TypedLinks.{TypedLinks}
use Rattle.span_operators.specs.declared.typed.Mode.{Mode}
use Rattle.span_operators.specs.declared.typed.Mode.TheVariants.{Rows, Groups}
use Rattle.span_operators.specs.declared.function.CalledFunction.{CalledFunction}
use Rattle.span_operators.specs.declared.function.CalledFunction.TheVariants as called
use Rattle.span_operators.specs.Kinds.{takes, common_kind, common_kind_with, common_kind_of_all, or_int, text_kind}
use Rattle.span_operators.specs.Functions.{function_named}
use Rattle.span_typing.specs.Scopes.{only_place, one_place, if_unique, this_item, item_of, item_named, column_place, fits}
use Rattle.span_operators.specs.Steps.{TypingStep, pure, from_result, ◌>>=◌, next_of, append_step, all_of}
use Rattle.span_operators.specs.Operators.{unary_minus, logical_not, null_test, comparison_test, between, in_list, like_test_of, like_test, are_conditions, link_kind, append_link, chain_of, otherwise_kind, value_kind, case_kind, case_of, match_of, calculation_of, length_of, starts_with, coalesce_of, one_of, two_of, three_of, some_of, if_of, apply_function, operand_for, operand_of, aggregate_kind, kinds_of, has_condition}
use Rattle.span_typing.specs.Typing.{Operand, key_typed, kind_at, column_at, column, parameter_typed, parameter, each, condition_of, condition, conditions, all_true, some_true, next_link, links, arm_typed, arm, arms, check_kind, compared_arm, compared_arms, optional, of_one, of_two, of_three, membership, chain, junction, searched_case, simple_case, new_aggregate, aggregate, unknown_call, aggregate_call, function_call, call, call_star, arm_at, link_at, at_operands, typing}
use Rattle.span_binder.specs.Faults.{IsTreeFault}

-- ---- what has a value, or such a fault

abbrev pub Faults : {A : Type 0} → Result A Refusal → Type 0
Faults (Ok x) = Unit {0}
Faults (Err why) = IsTreeFault why

pub no_column : IsTreeFault refusal.NoColumn
no_column = (omega arith, omega arith)

pub ambiguous : IsTreeFault refusal.Ambiguous
ambiguous = (omega arith, omega arith)

pub mismatch : IsTreeFault refusal.TypeMismatch
mismatch = (omega arith, omega arith)

pub not_grouped : IsTreeFault refusal.NotGrouped
not_grouped = (omega arith, omega arith)

bad_pattern : IsTreeFault refusal.BadPattern
bad_pattern = (omega arith, omega arith)

no_parameter : IsTreeFault refusal.NoParameter
no_parameter = (omega arith, omega arith)

pub then_faults : {A B : Type 0} (r : Result A Refusal) (next : A → Result B Refusal) → Faults r → ((x : A) → Faults (next x)) → Faults (and_then r next)
then_faults (Ok x) next r_is next_is = next_is x
then_faults (Err why) next r_is next_is = r_is

pub if_faults : {A : Type 0} (b : Bool) (x y : Result A Refusal) → Faults x → Faults y → Faults (if b then x else y)
if_faults true x y x_is y_is = x_is
if_faults false x y x_is y_is = y_is

-- ---- types

common_faults : (j k : Option Kind) → Faults (common_kind j k)
unfolding common_kind
common_faults None k = tt {0}
common_faults (Some j) None = tt {0}
common_faults (Some j) (Some k) = if_faults _ (Ok (Some j)) (Err refusal.TypeMismatch) (tt {0}) mismatch

common_with_faults : (ks : List (Option Kind)) (found : Result (Option Kind) Refusal) → Faults found → Faults (common_kind_with ks found)
common_with_faults [] found is = is
common_with_faults (k ∷ ks) (Ok j) is = common_with_faults ks (common_kind j k) (common_faults j k)
common_with_faults (k ∷ ks) (Err why) is = is

all_common_faults : (ks : List (Option Kind)) → Faults (common_kind_of_all ks)
all_common_faults ks = common_with_faults ks (Ok None) (tt {0})

text_faults : (k : Option Kind) → Faults (text_kind k)
unfolding text_kind
text_faults None = tt {0}
text_faults (Some kind.Str) = tt {0}
text_faults (Some kind.Bytes) = tt {0}
text_faults (Some kind.Int) = mismatch
text_faults (Some kind.Bool) = mismatch

-- ---- operators

negative_faults : (x : Typed) → Faults (unary_minus x)
unfolding unary_minus
negative_faults x = if_faults (takes kind.Int x.kind) _ (Err refusal.TypeMismatch) (tt {0}) mismatch

not_faults : (x : Typed) → Faults (logical_not x)
unfolding logical_not
not_faults x = if_faults (takes kind.Bool x.kind) _ (Err refusal.TypeMismatch) (tt {0}) mismatch

comparison_faults : (c : ComparisonOperator) (x y : Typed) → Faults (comparison_test c x y)
unfolding comparison_test
comparison_faults c x y = then_faults (common_kind x.kind y.kind) _ (common_faults x.kind y.kind) (λ k. tt {0})

between_faults : (x low high : Typed) → Faults (between x low high)
unfolding between
between_faults x low high = then_faults (common_kind_of_all (x.kind ∷ low.kind ∷ high.kind ∷ [])) _ (all_common_faults (x.kind ∷ low.kind ∷ high.kind ∷ [])) (λ k. tt {0})

in_faults : (x : Typed) (ys : List Typed) → Faults (in_list x ys)
unfolding in_list
in_faults x ys = then_faults (common_kind_of_all (x.kind ∷ kinds_of ys)) _ (all_common_faults (x.kind ∷ kinds_of ys)) (λ k. tt {0})

like_of_faults : (e : TypedExpr) (parts : Option (List PatternPart)) → Faults (like_test_of e parts)
like_of_faults e None = bad_pattern
like_of_faults e (Some parts) = tt {0}

like_faults : (spelled : List ℕ) (x : Typed) → Faults (like_test spelled x)
unfolding like_test
like_faults spelled x = if_faults (takes kind.Str x.kind) (like_test_of x.expr (parts_of (chars (text_of spelled)))) (Err refusal.TypeMismatch) (like_of_faults x.expr (parts_of (chars (text_of spelled)))) mismatch

numbers_faults : (j k : Option Kind) → Faults (if takes kind.Int j && takes kind.Int k then Ok kind.Int else Err refusal.TypeMismatch)
numbers_faults j k = if_faults (takes kind.Int j && takes kind.Int k) (Ok kind.Int) (Err refusal.TypeMismatch) (tt {0}) mismatch

link_kind_faults : (op : Operator) (j k : Option Kind) → Faults (link_kind op j k)
unfolding link_kind
link_kind_faults Concat j k = then_faults (common_kind j k) text_kind (common_faults j k) text_faults
link_kind_faults Plus j k = numbers_faults j k
link_kind_faults Minus j k = numbers_faults j k
link_kind_faults Times j k = numbers_faults j k

value_kind_faults : (arms : List TypedArm) (other : Option Typed) → Faults (value_kind arms other)
value_kind_faults arms other =
    let kinds : List (Option Kind) = otherwise_kind other ∷ map (λ (a : TypedArm). a.value.kind) arms in
    then_faults (common_kind_of_all kinds) (λ k. Ok (or_int k)) (all_common_faults kinds) (λ k. tt {0})

case_kind_faults : (arms : List TypedArm) (other : Option Typed) → Faults (case_kind arms other)
case_kind_faults arms other = if_faults (list_all has_condition arms) (value_kind arms other) (Err refusal.TypeMismatch) (value_kind_faults arms other) mismatch

case_faults : (arms : List TypedArm) (other : Option Typed) → Faults (case_of arms other)
unfolding case_of
case_faults arms other = then_faults (case_kind arms other) _ (case_kind_faults arms other) (λ k. tt {0})

match_faults : (x : Typed) (arms : List TypedArm) (other : Option Typed) → Faults (match_of x arms other)
unfolding match_of
match_faults x arms other = then_faults (value_kind arms other) _ (value_kind_faults arms other) (λ k. tt {0})

-- ---- calls

calculation_faults : (op : Calculates) (x y : Typed) → Faults (calculation_of op x y)
unfolding calculation_of
calculation_faults op x y = if_faults (takes kind.Int x.kind && takes kind.Int y.kind) _ (Err refusal.TypeMismatch) (tt {0}) mismatch

length_faults : (x : Typed) → Faults (length_of x)
unfolding length_of
length_faults x = then_faults (text_kind x.kind) _ (text_faults x.kind) (λ k. tt {0})

prefix_faults : (x front : Typed) → Faults (starts_with x front)
unfolding starts_with
prefix_faults x front = then_faults (and_then (common_kind x.kind front.kind) text_kind) _ (then_faults (common_kind x.kind front.kind) text_kind (common_faults x.kind front.kind) text_faults) (λ k. tt {0})

coalesce_faults : (xs : List Typed) → Faults (coalesce_of xs)
unfolding coalesce_of
coalesce_faults xs = then_faults (common_kind_of_all (kinds_of xs)) _ (all_common_faults (kinds_of xs)) (λ k. tt {0})

one_faults : (xs : List Typed) → Faults (one_of xs)
one_faults [] = mismatch
one_faults (x ∷ []) = tt {0}
one_faults (x ∷ y ∷ xs) = mismatch

two_faults : (xs : List Typed) → Faults (two_of xs)
two_faults [] = mismatch
two_faults (x ∷ []) = mismatch
two_faults (x ∷ y ∷ []) = tt {0}
two_faults (x ∷ y ∷ z ∷ xs) = mismatch

three_faults : (xs : List Typed) → Faults (three_of xs)
three_faults [] = mismatch
three_faults (x ∷ []) = mismatch
three_faults (x ∷ y ∷ []) = mismatch
three_faults (x ∷ y ∷ z ∷ []) = tt {0}
three_faults (x ∷ y ∷ z ∷ w ∷ xs) = mismatch

some_faults : (xs : List Typed) → Faults (some_of xs)
some_faults [] = mismatch
some_faults (x ∷ xs) = tt {0}

if_of_faults : (c x y : Typed) → Faults (if_of c x y)
unfolding if_of
if_of_faults c x y = case_faults _ (Some y)

function_faults : (f : CalledFunction) (xs : List Typed) → Faults (apply_function f xs)
unfolding apply_function
function_faults called.Divide xs = then_faults (two_of xs) _ (two_faults xs) (λ p. calculation_faults Divide p.0 p.1)
function_faults called.Modulo xs = then_faults (two_of xs) _ (two_faults xs) (λ p. calculation_faults Modulo p.0 p.1)
function_faults called.Length xs = then_faults (one_of xs) length_of (one_faults xs) length_faults
function_faults called.StartsWith xs = then_faults (two_of xs) _ (two_faults xs) (λ p. prefix_faults p.0 p.1)
function_faults called.If xs = then_faults (three_of xs) _ (three_faults xs) (λ p. if_of_faults p.0 p.1 p.2)
function_faults called.IfNull xs = then_faults (two_of xs) _ (two_faults xs) (λ p. coalesce_faults (p.0 ∷ p.1 ∷ []))
function_faults called.Coalesce xs = then_faults (some_of xs) coalesce_of (some_faults xs) coalesce_faults
function_faults (called.Aggregate f) xs = mismatch

operand_for_faults : (f : Function) (x : Typed) → Faults (operand_for f x)
operand_for_faults Sum x = if_faults (takes kind.Int x.kind) (Ok x) (Err refusal.TypeMismatch) (tt {0}) mismatch
operand_for_faults Count x = tt {0}
operand_for_faults Min x = tt {0}
operand_for_faults Max x = tt {0}

operand_faults : (f : Function) (xs : List Typed) → Faults (operand_of f xs)
unfolding operand_of
operand_faults f xs = then_faults (one_of xs) (operand_for f) (one_faults xs) (operand_for_faults f)

-- ---- names

unique_faults : (b : Bool) (p : ℕ) → Faults (if_unique b p)
unique_faults true p = ambiguous
unique_faults false p = tt {0}

only_faults : {A : Type 0} (test : A → Bool) (xs : List A) (p : Option ℕ) → Faults (only_place test xs p)
only_faults test xs None = no_column
only_faults test xs (Some p) = unique_faults _ p

pub place_faults : {A : Type 0} (test : A → Bool) (xs : List A) → Faults (one_place test xs)
place_faults test xs = only_faults test xs (position test xs)

this_faults : (o : Option ℕ) → Faults (this_item o)
this_faults None = no_column
this_faults (Some item) = tt {0}

item_faults : (scope : Scope) (spelled : Option Spelling) → Faults (item_of scope spelled)
item_faults scope None = tt {0}
item_faults scope (Some spelled) = this_faults (item_named scope spelled.text)

pub column_place_faults : (scope : Scope) (c : Column) → Faults (column_place scope c)
unfolding column_place
column_place_faults scope c = then_faults (item_of scope c.table) _ (item_faults scope c.table) (λ item. place_faults (fits item c.name.text) scope.columns)

key_faults : (k : Kind) (place : Option ℕ) → Faults (key_typed k place)
key_faults k None = not_grouped
key_faults k (Some place) = tt {0}

pub column_at_faults : (scope : Scope) (m : Mode) (place : ℕ) → Faults (column_at scope m place)
unfolding column_at
column_at_faults scope Rows place = tt {0}
column_at_faults scope Groups place = key_faults (kind_at scope place) _

column_faults : (scope : Scope) (m : Mode) (c : Column) → Faults (column scope m c)
unfolding column
column_faults scope m c = then_faults (column_place scope c) (column_at scope m) (column_place_faults scope c) (column_at_faults scope m)

typed_parameter_faults : (p : Option Parameter) → Faults (parameter_typed p)
typed_parameter_faults None = no_parameter
typed_parameter_faults (Some p) = tt {0}

parameter_faults : (params : List Parameter) (spelled : List ℕ) → Faults (parameter params spelled)
unfolding parameter
parameter_faults params spelled = typed_parameter_faults (parameter_named params (drop 1 spelled))

condition_of_faults : (k : Option Kind) (x : Typed) → Faults (condition_of k x)
unfolding condition_of
condition_of_faults k x = if_faults (are_conditions k x.kind) (Ok x.expr) (Err refusal.TypeMismatch) (tt {0}) mismatch

append_link_faults : (c : TypedLinks) (op : Operator) (x : Typed) → Faults (append_link c op x)
unfolding append_link
append_link_faults c op x = then_faults (link_kind op c.kind x.kind) _ (link_kind_faults op c.kind x.kind) (λ k. tt {0})

check_kind_faults : (k : Option Kind) (x : Typed) → Faults (check_kind k x)
unfolding check_kind
check_kind_faults k x = then_faults (common_kind k x.kind) _ (common_faults k x.kind) (λ j. tt {0})

-- ---- steps

abbrev pub StepFaults : {S A : Type 0} → TypingStep S A → Type 0
StepFaults {S} step = (found : S) → Faults (step found)

pub then_step : {S A B : Type 0} (step : TypingStep S A) (next : A → TypingStep S B) → StepFaults step → ((x : A) → StepFaults (next x)) → StepFaults (step >>= next)
then_step step next step_is next_is = λ found. then_faults (step found) (λ p. next p.0 p.1) (step_is found) (λ p. next_is p.0 p.1)

pub result_step : {S A : Type 0} (r : Result A Refusal) → Faults r → StepFaults {S = S} (from_result r)
result_step r is = λ found. then_faults r (λ x. Ok (x, found)) is (λ x. tt {0})

folded_faults : {S X A : Type 0} (step : A → X → TypingStep S A) (P : X → Type 0) → ((a : A) (x : X) → P x → StepFaults (step a x)) → (xs : List X) → AllByRecursion P xs → (r : Result (A × S) Refusal) → Faults r → Faults (fold (next_of step) r xs)
folded_faults step P each [] all r is = is
folded_faults step P each (x ∷ xs) all r is = folded_faults step P each xs all.1 (next_of step r x) (then_faults r (λ p. step p.0 x p.1) is (λ p. each p.0 x all.0 p.1))

all_step : {S X A : Type 0} (step : X → TypingStep S A) (P : X → Type 0) → ((x : X) → P x → StepFaults (step x)) → (xs : List X) → AllByRecursion P xs → StepFaults (all_of step xs)
all_step step P each xs all = λ found. folded_faults (append_step step) P (λ os x is. then_step (step x) (λ a. pure (os ++ (a ∷ []))) (each x is) (λ a more. tt {0})) xs all (Ok ([], found)) (tt {0})

-- ---- operands

abbrev pub OperandFaults : Operand → Type 0
OperandFaults a = (m : Mode) → StepFaults (a m)

each_faults : (os : List Operand) (m : Mode) → AllByRecursion OperandFaults os → StepFaults (each os m)
each_faults os m all = all_step (λ (a : Operand). a m) OperandFaults (λ a is. is m) os all

of_one_faults : (make : Typed → Result Typed Refusal) (a : Operand) → ((x : Typed) → Faults (make x)) → OperandFaults a → OperandFaults (of_one make a)
unfolding of_one
of_one_faults make a makes a_is m = then_step (a m) (λ x. from_result (make x)) (a_is m) (λ x. result_step (make x) (makes x))

of_two_faults : (make : Typed → Typed → Result Typed Refusal) (a b : Operand) → ((x y : Typed) → Faults (make x y)) → OperandFaults a → OperandFaults b → OperandFaults (of_two make a b)
unfolding of_two
of_two_faults make a b makes a_is b_is m = then_step (a m) (λ x. b m >>= (λ y. from_result (make x y))) (a_is m) (λ x. then_step (b m) (λ y. from_result (make x y)) (b_is m) (λ y. result_step (make x y) (makes x y)))

of_three_faults : (make : Typed → Typed → Typed → Result Typed Refusal) (a b c : Operand) → ((x y z : Typed) → Faults (make x y z)) → OperandFaults a → OperandFaults b → OperandFaults c → OperandFaults (of_three make a b c)
unfolding of_three
of_three_faults make a b c makes a_is b_is c_is m =
    then_step (a m) (λ x. b m >>= (λ y. c m >>= (λ z. from_result (make x y z)))) (a_is m)
    (λ x. then_step (b m) (λ y. c m >>= (λ z. from_result (make x y z))) (b_is m)
    (λ y. then_step (c m) (λ z. from_result (make x y z)) (c_is m) (λ z. result_step (make x y z) (makes x y z))))

membership_faults : (a : Operand) (os : List Operand) → OperandFaults a → AllByRecursion OperandFaults os → OperandFaults (membership a os)
unfolding membership
membership_faults a os a_is all m =
    then_step (a m) (λ x. each os m >>= (λ ys. from_result (in_list x ys))) (a_is m)
    (λ x. then_step (each os m) (λ ys. from_result (in_list x ys)) (each_faults os m all) (λ ys. result_step (in_list x ys) (in_faults x ys)))

abbrev LinkFaults : Operator × Operand → Type 0
LinkFaults l = OperandFaults l.1

next_link_faults : (m : Mode) (c : TypedLinks) (l : Operator × Operand) → LinkFaults l → StepFaults (next_link m c l)
next_link_faults m c l is = then_step (l.1 m) (λ x. from_result (append_link c l.0 x)) (is m) (λ x. result_step (append_link c l.0 x) (append_link_faults c l.0 x))

links_faults : (k : Option Kind) (ls : List (Operator × Operand)) (m : Mode) → AllByRecursion LinkFaults ls → StepFaults (links k ls m)
links_faults k ls m all = λ found. folded_faults (next_link m) LinkFaults (λ c l is. next_link_faults m c l is) ls all (Ok (record { kind = k; links = [] }, found)) (tt {0})

chain_faults : (a : Operand) (ls : List (Operator × Operand)) → OperandFaults a → AllByRecursion LinkFaults ls → OperandFaults (chain a ls)
unfolding chain
chain_faults a ls a_is all m =
    then_step (a m) (λ x. links x.kind ls m >>= (λ c. from_result (Ok (chain_of x c)))) (a_is m)
    (λ x. then_step (links x.kind ls m) (λ c. from_result (Ok (chain_of x c))) (links_faults x.kind ls m all) (λ c. result_step (Ok (chain_of x c)) (tt {0})))

condition_faults : (k : Option Kind) (m : Mode) (a : Operand) → OperandFaults a → StepFaults (condition k a m)
condition_faults k m a is = then_step (a m) (λ x. from_result (condition_of k x)) (is m) (λ x. result_step (condition_of k x) (condition_of_faults k x))

junction_faults : (join : Typed → List TypedExpr → Typed) (a : Operand) (os : List Operand) → OperandFaults a → AllByRecursion OperandFaults os → OperandFaults (junction join a os)
unfolding junction
junction_faults join a os a_is all m =
    then_step (a m) (λ x. conditions x.kind os m >>= (λ es. from_result (Ok (join x es)))) (a_is m)
    (λ x. then_step (conditions x.kind os m) (λ es. from_result (Ok (join x es))) (all_step (λ (b : Operand). condition x.kind b m) OperandFaults (condition_faults x.kind m) os all) (λ es. result_step (Ok (join x es)) (tt {0})))

-- ---- CASE

abbrev ArmFaults : Operand × Operand → Type 0
ArmFaults a = OperandFaults a.0 × OperandFaults a.1

arm_faults : (m : Mode) (a : Operand × Operand) → ArmFaults a → StepFaults (arm a m)
arm_faults m a is =
    then_step (a.0 m) (λ c. a.1 m >>= (λ v. from_result (Ok (arm_typed c v)))) (is.0 m)
    (λ c. then_step (a.1 m) (λ v. from_result (Ok (arm_typed c v))) (is.1 m) (λ v. result_step (Ok (arm_typed c v)) (tt {0})))

compared_faults : (k : Option Kind) (m : Mode) (a : Operand × Operand) → ArmFaults a → StepFaults (compared_arm k a m)
compared_faults k m a is =
    then_step (a.0 m >>= (λ x. from_result (check_kind k x))) (λ c. a.1 m >>= (λ v. from_result (Ok (arm_typed c v))))
    (then_step (a.0 m) (λ x. from_result (check_kind k x)) (is.0 m) (λ x. result_step (check_kind k x) (check_kind_faults k x)))
    (λ c. then_step (a.1 m) (λ v. from_result (Ok (arm_typed c v))) (is.1 m) (λ v. result_step (Ok (arm_typed c v)) (tt {0})))

abbrev ElseFaults : Option Operand → Type 0
ElseFaults None = Unit {0}
ElseFaults (Some a) = OperandFaults a

optional_faults : (other : Option Operand) (m : Mode) → ElseFaults other → StepFaults (optional other m)
optional_faults None m is = λ found. tt {0}
optional_faults (Some a) m is = then_step (a m) (λ x. from_result (Ok (Some x))) (is m) (λ x. result_step (Ok (Some x)) (tt {0}))

searched_faults : (os : List (Operand × Operand)) (other : Option Operand) → AllByRecursion ArmFaults os → ElseFaults other → OperandFaults (searched_case os other)
unfolding searched_case
searched_faults os other all other_is m =
    then_step (arms os m) (λ xs. optional other m >>= (λ y. from_result (case_of xs y))) (all_step (λ (a : Operand × Operand). arm a m) ArmFaults (arm_faults m) os all)
    (λ xs. then_step (optional other m) (λ y. from_result (case_of xs y)) (optional_faults other m other_is) (λ y. result_step (case_of xs y) (case_faults xs y)))

simple_faults : (a : Operand) (os : List (Operand × Operand)) (other : Option Operand) → OperandFaults a → AllByRecursion ArmFaults os → ElseFaults other → OperandFaults (simple_case a os other)
unfolding simple_case
simple_faults a os other a_is all other_is m =
    then_step (a m) (λ x. compared_arms x.kind os m >>= (λ xs. optional other m >>= (λ y. from_result (match_of x xs y)))) (a_is m)
    (λ x. then_step (compared_arms x.kind os m) (λ xs. optional other m >>= (λ y. from_result (match_of x xs y))) (all_step (λ (b : Operand × Operand). compared_arm x.kind b m) ArmFaults (compared_faults x.kind m) os all)
    (λ xs. then_step (optional other m) (λ y. from_result (match_of x xs y)) (optional_faults other m other_is) (λ y. result_step (match_of x xs y) (match_faults x xs y))))

-- ---- calls

new_aggregate_faults : (scope : Scope) (m : Mode) (a : Aggregate) (k : Kind) → StepFaults (new_aggregate scope m a k)
unfolding new_aggregate
new_aggregate_faults scope Rows a k = λ found. not_grouped
new_aggregate_faults scope Groups a k = λ found. tt {0}

aggregate_faults : (scope : Scope) (m : Mode) (f : Function) (xs : List Typed) → StepFaults (aggregate scope m f xs)
unfolding aggregate
aggregate_faults scope m f xs = then_step (from_result (operand_of f xs)) (λ x. new_aggregate scope m (Of f x.expr) (aggregate_kind f x.kind)) (result_step (operand_of f xs) (operand_faults f xs)) (λ x. new_aggregate_faults scope m (Of f x.expr) (aggregate_kind f x.kind))

unknown_faults : (os : List Operand) → AllByRecursion OperandFaults os → OperandFaults (unknown_call os)
unfolding unknown_call
unknown_faults os all m = then_step (each os m) (λ xs. from_result (Err refusal.TypeMismatch)) (each_faults os m all) (λ xs. result_step {A = Typed} (Err refusal.TypeMismatch) mismatch)

aggregate_call_faults : (scope : Scope) (f : Function) (os : List Operand) → AllByRecursion OperandFaults os → OperandFaults (aggregate_call scope f os)
unfolding aggregate_call
aggregate_call_faults scope f os all m = then_step (each os Rows) (aggregate scope m f) (each_faults os Rows all) (aggregate_faults scope m f)

function_call_faults : (f : CalledFunction) (os : List Operand) → AllByRecursion OperandFaults os → OperandFaults (function_call f os)
unfolding function_call
function_call_faults f os all m = then_step (each os m) (λ xs. from_result (apply_function f xs)) (each_faults os m all) (λ xs. result_step (apply_function f xs) (function_faults f xs))

call_faults : (scope : Scope) (f : Option CalledFunction) (os : List Operand) → AllByRecursion OperandFaults os → OperandFaults (call scope f os)
call_faults scope None os all = unknown_faults os all
call_faults scope (Some (called.Aggregate f)) os all = aggregate_call_faults scope f os all
call_faults scope (Some called.Divide) os all = function_call_faults called.Divide os all
call_faults scope (Some called.Modulo) os all = function_call_faults called.Modulo os all
call_faults scope (Some called.Length) os all = function_call_faults called.Length os all
call_faults scope (Some called.StartsWith) os all = function_call_faults called.StartsWith os all
call_faults scope (Some called.If) os all = function_call_faults called.If os all
call_faults scope (Some called.IfNull) os all = function_call_faults called.IfNull os all
call_faults scope (Some called.Coalesce) os all = function_call_faults called.Coalesce os all

refused_faults : OperandFaults (λ m. from_result (Err refusal.TypeMismatch))
refused_faults m = result_step {A = Typed} (Err refusal.TypeMismatch) mismatch

star_faults : (scope : Scope) (f : Option CalledFunction) → OperandFaults (call_star scope f)
unfolding call_star
star_faults scope None m = refused_faults m
star_faults scope (Some (called.Aggregate Count)) m = new_aggregate_faults scope m CountRows kind.Int
star_faults scope (Some (called.Aggregate Sum)) m = refused_faults m
star_faults scope (Some (called.Aggregate Min)) m = refused_faults m
star_faults scope (Some (called.Aggregate Max)) m = refused_faults m
star_faults scope (Some called.Divide) m = refused_faults m
star_faults scope (Some called.Modulo) m = refused_faults m
star_faults scope (Some called.Length) m = refused_faults m
star_faults scope (Some called.StartsWith) m = refused_faults m
star_faults scope (Some called.If) m = refused_faults m
star_faults scope (Some called.IfNull) m = refused_faults m
star_faults scope (Some called.Coalesce) m = refused_faults m

-- ---- trees of expressions

module _ (scope : Scope) (params : List Parameter) where
  abbrev arm_fold : Arm → Operand × Operand
  arm_fold = fold-Arm Operand (Operand × Operand) (Operator × Operand) (at_operands scope params) arm_at link_at

  abbrev link_fold : Link → Operator × Operand
  link_fold = fold-Link Operand (Operand × Operand) (Operator × Operand) (at_operands scope params) arm_at link_at

  abbrev TreeFaults : Expr → Type 0
  TreeFaults e = OperandFaults (typing scope params e)

  abbrev TreeArmFaults : Arm → Type 0
  TreeArmFaults a = ArmFaults (arm_fold a)

  abbrev TreeLinkFaults : Link → Type 0
  TreeLinkFaults l = LinkFaults (link_fold l)

  -- a part of a tree, with what holds of it
  abbrev KnownTree : Type 0
  KnownTree = (e : Expr) × TreeFaults e

  abbrev KnownArm : Type 0
  KnownArm = (a : Arm) × TreeArmFaults a

  abbrev KnownLink : Type 0
  KnownLink = (l : Link) × TreeLinkFaults l

  abbrev tree_of : KnownTree → Expr
  tree_of e = e.0

  abbrev arm_of : KnownArm → Arm
  arm_of a = a.0

  abbrev link_of : KnownLink → Link
  link_of l = l.0

  trees_known : (es : List KnownTree) → AllByRecursion OperandFaults (map (typing scope params) (map tree_of es))
  trees_known [] = tt {0}
  trees_known (e ∷ es) = (e.1, trees_known es)

  arms_known : (os : List KnownArm) → AllByRecursion ArmFaults (map arm_fold (map arm_of os))
  arms_known [] = tt {0}
  arms_known (a ∷ os) = (a.1, arms_known os)

  links_known : (ls : List KnownLink) → AllByRecursion LinkFaults (map link_fold (map link_of ls))
  links_known [] = tt {0}
  links_known (l ∷ ls) = (l.1, links_known ls)

  abbrev layer : Expr-F KnownTree KnownArm KnownLink → Expr-F Operand (Operand × Operand) (Operator × Operand)
  layer y = map-Expr Expr Arm Link Operand (Operand × Operand) (Operator × Operand) (typing scope params) arm_fold link_fold (map-Expr KnownTree KnownArm KnownLink Expr Arm Link tree_of arm_of link_of y)

  layer_faults : (y : Expr-F KnownTree KnownArm KnownLink) → OperandFaults (at_operands scope params (layer y))
  layer_faults (Expr-F.Integer n) = λ m found. tt {0}
  layer_faults (Expr-F.Str s) = λ m found. tt {0}
  layer_faults (Expr-F.Bytes s) = λ m found. tt {0}
  layer_faults (Expr-F.Truth b place) = λ m found. tt {0}
  layer_faults (Expr-F.Null place) = λ m found. tt {0}
  layer_faults (Expr-F.Parameter p) = λ m. result_step (parameter params p.text) (parameter_faults params p.text)
  layer_faults (Expr-F.Column c) = λ m. result_step (column scope m c) (column_faults scope m c)
  layer_faults (Expr-F.CallStar name) = star_faults scope (function_named name.text)
  layer_faults (Expr-F.Call name os) = call_faults scope (function_named name.text) (map (typing scope params) (map tree_of os)) (trees_known os)
  layer_faults (Expr-F.Case None os None) = searched_faults (map arm_fold (map arm_of os)) None (arms_known os) (tt {0})
  layer_faults (Expr-F.Case None os (Some b)) = searched_faults (map arm_fold (map arm_of os)) (Some (typing scope params b.0)) (arms_known os) b.1
  layer_faults (Expr-F.Case (Some a) os None) = simple_faults (typing scope params a.0) (map arm_fold (map arm_of os)) None a.1 (arms_known os) (tt {0})
  layer_faults (Expr-F.Case (Some a) os (Some b)) = simple_faults (typing scope params a.0) (map arm_fold (map arm_of os)) (Some (typing scope params b.0)) a.1 (arms_known os) b.1
  layer_faults (Expr-F.Negative a) = of_one_faults unary_minus (typing scope params a.0) negative_faults a.1
  layer_faults (Expr-F.Chain a ls) = chain_faults (typing scope params a.0) (map link_fold (map link_of ls)) a.1 (links_known ls)
  layer_faults (Expr-F.Compare a c b) = of_two_faults (comparison_test c) (typing scope params a.0) (typing scope params b.0) (comparison_faults c) a.1 b.1
  layer_faults (Expr-F.IsNull a) = of_one_faults (λ x. Ok (null_test x)) (typing scope params a.0) (λ x. tt {0}) a.1
  layer_faults (Expr-F.Like a pattern) = of_one_faults (like_test pattern.text) (typing scope params a.0) (like_faults pattern.text) a.1
  layer_faults (Expr-F.Between a low high) = of_three_faults between (typing scope params a.0) (typing scope params low.0) (typing scope params high.0) between_faults a.1 low.1 high.1
  layer_faults (Expr-F.In a os) = membership_faults (typing scope params a.0) (map (typing scope params) (map tree_of os)) a.1 (trees_known os)
  layer_faults (Expr-F.Not a) = of_one_faults logical_not (typing scope params a.0) not_faults a.1
  layer_faults (Expr-F.And a os) = junction_faults all_true (typing scope params a.0) (map (typing scope params) (map tree_of os)) a.1 (trees_known os)
  layer_faults (Expr-F.Or a os) = junction_faults some_true (typing scope params a.0) (map (typing scope params) (map tree_of os)) a.1 (trees_known os)

  pub typing_faults : (e : Expr) → TreeFaults e
  typing_faults = ind-Expr TreeFaults TreeArmFaults TreeLinkFaults
      (λ x y is. subst (λ (z : Expr-F Expr Arm Link). TreeFaults (roll-Expr z)) is
      (subst OperandFaults (sym (fold-roll-Expr Operand (Operand × Operand) (Operator × Operand) (at_operands scope params) arm_at link_at (map-Expr KnownTree KnownArm KnownLink Expr Arm Link tree_of arm_of link_of y))) (layer_faults y)))
      (λ x y is. subst (λ (z : Arm-F Expr Arm Link). TreeArmFaults (roll-Arm z)) is
      (subst ArmFaults (sym (fold-roll-Arm Operand (Operand × Operand) (Operator × Operand) (at_operands scope params) arm_at link_at (map-Arm KnownTree KnownArm KnownLink Expr Arm Link tree_of arm_of link_of y))) (y.condition.1, y.value.1)))
      (λ x y is. subst (λ (z : Link-F Expr Arm Link). TreeLinkFaults (roll-Link z)) is
      (subst LinkFaults (sym (fold-roll-Link Operand (Operand × Operand) (Operator × Operand) (at_operands scope params) arm_at link_at (map-Link KnownTree KnownArm KnownLink Expr Arm Link tree_of arm_of link_of y))) y.operand.1))
