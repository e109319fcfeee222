-- What is made of operands, by what functions answered of them.
use Rattle.std.proofs.Common.{◌≡◌, List, Option, Result, Ok, Err, subst}
use Rattle.span_value.specs.declared.refusal.Refusal.{Refusal}
use Rattle.span_value.specs.declared.refusal.Refusal.TheVariants as refusal
use Rattle.span_trees.specs.declared.tree.Operator.{Operator}
use Rattle.span_expr.specs.declared.expr.Expr.{Expr as TypedExpr}
use Rattle.span_query.specs.declared.query.Aggregate.{Aggregate}
use Rattle.span_query.specs.declared.query.Function.{Function}
use Rattle.span_operators.specs.declared.typed.Typed.{Typed}
use Rattle.span_operators.specs.declared.typed.TypedArm.{TypedArm}
use Rattle.span_operators.specs.declared.typed.TypedLinks.{TypedLinks}
use Rattle.span_operators.specs.declared.typed.Mode.{Mode}
use Rattle.span_operators.specs.declared.typed.Mode.TheVariants.{Rows}
use Rattle.span_typing.specs.declared.scope.Scope.{Scope}
use Rattle.span_operators.specs.declared.function.CalledFunction.{CalledFunction}
use Rattle.span_value.specs.Results.{and_then}
use Rattle.span_value.proofs.Results.{ok_same}
use Rattle.span_operators.specs.Steps.{◌>>=◌, from_result, Gives, Leaves}
use Rattle.span_operators.specs.Operators.{in_list, chain_of, case_of, match_of, apply_function}
use Rattle.span_typing.specs.Typing.{Operand, each, conditions, links, arms, compared_arms, optional, of_one, of_two, of_three, membership, chain, junction, searched_case, simple_case, unknown_call, aggregate_call, function_call, aggregate}
use Rattle.span_typing.proofs.Stepping.{made_of, made_of_two, made_of_three, made_step, stopped, stopped_second}

pub one_made : (f : Typed → Result Typed Refusal) (a : Operand) (m : Mode) (g0 g1 : List Aggregate) (l r : Result Typed Refusal) → Leaves l g1 (a m g0) → Gives r (and_then l f) → Leaves r g1 (of_one f a m g0)
unfolding of_one
one_made f a m g0 g1 l r h e = made_of (a m) f g0 g1 l r h e

pub two_made : (f : Typed → Typed → Result Typed Refusal) (a b : Operand) (m : Mode) (g0 g1 g2 : List Aggregate) (l n r : Result Typed Refusal) → Leaves l g1 (a m g0) → Leaves n g2 (b m g1) → Gives r (and_then l (λ x. and_then n (f x))) → Leaves r g2 (of_two f a b m g0)
unfolding of_two
two_made f a b m g0 g1 g2 l n r h k e = made_of_two (a m) (λ x. b m) f g0 g1 g2 l n r h (λ x q. k) e

pub three_made : (f : Typed → Typed → Typed → Result Typed Refusal) (a b c : Operand) (m : Mode) (g0 g1 g2 g3 : List Aggregate) (l n o r : Result Typed Refusal) → Leaves l g1 (a m g0) → Leaves n g2 (b m g1) → Leaves o g3 (c m g2) → Gives r (and_then l (λ x. and_then n (λ y. and_then o (f x y)))) → Leaves r g3 (of_three f a b c m g0)
unfolding of_three
three_made f a b c m g0 g1 g2 g3 l n o r h k j e = made_of_three (a m) (λ x. b m) (λ x y. c m) f g0 g1 g2 g3 l n o r h (λ x q. k) (λ x y q p. j) e

pub member_made : (a : Operand) (os : List Operand) (m : Mode) (g0 g1 g2 : List Aggregate) (l : Result Typed Refusal) (n : Result (List Typed) Refusal) (r : Result Typed Refusal) → Leaves l g1 (a m g0) → Leaves n g2 (each os m g1) → Gives r (and_then l (λ x. and_then n (in_list x))) → Leaves r g2 (membership a os m g0)
unfolding membership
member_made a os m g0 g1 g2 l n r h k e = made_of_two (a m) (λ x. each os m) in_list g0 g1 g2 l n r h (λ x q. k) e

pub chain_made : (a : Operand) (ls : List (Operator × Operand)) (m : Mode) (g0 g1 g2 : List Aggregate) (l : Result Typed Refusal) (x : Typed) (n : Result TypedLinks Refusal) (r : Result Typed Refusal) → Leaves l g1 (a m g0) → l ≡ Ok x → Leaves n g2 (links x.kind ls m g1) → Gives r (and_then l (λ x. and_then n (λ c. Ok (chain_of x c)))) → Leaves r g2 (chain a ls m g0)
unfolding chain
chain_made a ls m g0 g1 g2 l x n r h is k e = made_of_two (a m) (λ x. links x.kind ls m) (λ x c. Ok (chain_of x c)) g0 g1 g2 l n r h (λ y q. subst (λ (z : Typed). Leaves n g2 (links z.kind ls m g1)) (ok_same l x y is q) k) e

pub junction_made : (join : Typed → List TypedExpr → Typed) (a : Operand) (os : List Operand) (m : Mode) (g0 g1 g2 : List Aggregate) (l : Result Typed Refusal) (x : Typed) (n : Result (List TypedExpr) Refusal) (r : Result Typed Refusal) → Leaves l g1 (a m g0) → l ≡ Ok x → Leaves n g2 (conditions x.kind os m g1) → Gives r (and_then l (λ x. and_then n (λ es. Ok (join x es)))) → Leaves r g2 (junction join a os m g0)
unfolding junction
junction_made join a os m g0 g1 g2 l x n r h is k e = made_of_two (a m) (λ x. conditions x.kind os m) (λ x es. Ok (join x es)) g0 g1 g2 l n r h (λ y q. subst (λ (z : Typed). Leaves n g2 (conditions z.kind os m g1)) (ok_same l x y is q) k) e

pub searched_made : (os : List (Operand × Operand)) (other : Option Operand) (m : Mode) (g0 g1 g2 : List Aggregate) (l : Result (List TypedArm) Refusal) (n : Result (Option Typed) Refusal) (r : Result Typed Refusal) → Leaves l g1 (arms os m g0) → Leaves n g2 (optional other m g1) → Gives r (and_then l (λ xs. and_then n (λ y. case_of xs y))) → Leaves r g2 (searched_case os other m g0)
unfolding searched_case
searched_made os other m g0 g1 g2 l n r h k e = made_of_two (arms os m) (λ xs. optional other m) (λ xs y. case_of xs y) g0 g1 g2 l n r h (λ x q. k) e

pub simple_made : (a : Operand) (os : List (Operand × Operand)) (other : Option Operand) (m : Mode) (g0 g1 g2 g3 : List Aggregate) (l : Result Typed Refusal) (x : Typed) (n : Result (List TypedArm) Refusal) (o : Result (Option Typed) Refusal) (r : Result Typed Refusal) → Leaves l g1 (a m g0) → l ≡ Ok x → Leaves n g2 (compared_arms x.kind os m g1) → Leaves o g3 (optional other m g2) → Gives r (and_then l (λ x. and_then n (λ xs. and_then o (λ y. match_of x xs y)))) → Leaves r g3 (simple_case a os other m g0)
unfolding simple_case
simple_made a os other m g0 g1 g2 g3 l x n o r h is k j e = made_of_three (a m) (λ x. compared_arms x.kind os m) (λ x xs. optional other m) (λ x xs y. match_of x xs y) g0 g1 g2 g3 l n o r h (λ y q. subst (λ (z : Typed). Leaves n g2 (compared_arms z.kind os m g1)) (ok_same l x y is q) k) (λ x y q p. j) e

pub unknown_made : (os : List Operand) (m : Mode) (g0 g1 : List Aggregate) (l : Result (List Typed) Refusal) (r : Result Typed Refusal) → Leaves l g1 (each os m g0) → Gives r (and_then l (λ xs. Err refusal.TypeMismatch)) → Leaves r g1 (unknown_call os m g0)
unfolding unknown_call
unknown_made os m g0 g1 l r h e = made_of (each os m) (λ xs. Err refusal.TypeMismatch) g0 g1 l r h e

pub function_made : (f : CalledFunction) (os : List Operand) (m : Mode) (g0 g1 : List Aggregate) (l : Result (List Typed) Refusal) (r : Result Typed Refusal) → Leaves l g1 (each os m g0) → Gives r (and_then l (λ xs. apply_function f xs)) → Leaves r g1 (function_call f os m g0)
unfolding function_call
function_made f os m g0 g1 l r h e = made_of (each os m) (λ xs. apply_function f xs) g0 g1 l r h e

pub aggregate_made : (scope : Scope) (f : Function) (os : List Operand) (m : Mode) (g0 g1 g2 : List Aggregate) (l : Result (List Typed) Refusal) (r : Result Typed Refusal) → Leaves l g1 (each os Rows g0) → Leaves r g2 (and_then l (λ xs. aggregate scope m f xs g1)) → Leaves r g2 (aggregate_call scope f os m g0)
unfolding aggregate_call
aggregate_made scope f os m g0 g1 g2 l r h e = made_step (each os Rows) (aggregate scope m f) g0 g1 g2 l r h e

-- ---- where the first operand is refused

pub one_stopped : (f : Typed → Result Typed Refusal) (a : Operand) (m : Mode) (g0 g1 g : List Aggregate) (l : Result Typed Refusal) (v : Refusal) → Leaves l g1 (a m g0) → l ≡ Err v → Leaves {A = Typed} (Err v) g (of_one f a m g0)
unfolding of_one
one_stopped f a m g0 g1 g l v h is = stopped (a m) (λ x. from_result (f x)) g0 g1 g l v h is

pub two_stopped : (f : Typed → Typed → Result Typed Refusal) (a b : Operand) (m : Mode) (g0 g1 g : List Aggregate) (l : Result Typed Refusal) (v : Refusal) → Leaves l g1 (a m g0) → l ≡ Err v → Leaves {A = Typed} (Err v) g (of_two f a b m g0)
unfolding of_two
two_stopped f a b m g0 g1 g l v h is = stopped (a m) (λ x. b m >>= (λ y. from_result (f x y))) g0 g1 g l v h is

pub three_stopped : (f : Typed → Typed → Typed → Result Typed Refusal) (a b c : Operand) (m : Mode) (g0 g1 g : List Aggregate) (l : Result Typed Refusal) (v : Refusal) → Leaves l g1 (a m g0) → l ≡ Err v → Leaves {A = Typed} (Err v) g (of_three f a b c m g0)
unfolding of_three
three_stopped f a b c m g0 g1 g l v h is = stopped (a m) (λ x. b m >>= (λ y. c m >>= (λ z. from_result (f x y z)))) g0 g1 g l v h is

pub three_stopped_second : (f : Typed → Typed → Typed → Result Typed Refusal) (a b c : Operand) (m : Mode) (g0 g1 g2 g : List Aggregate) (l : Result Typed Refusal) (x : Typed) (n : Result Typed Refusal) (v : Refusal) → Leaves l g1 (a m g0) → l ≡ Ok x → Leaves n g2 (b m g1) → n ≡ Err v → Leaves {A = Typed} (Err v) g (of_three f a b c m g0)
unfolding of_three
three_stopped_second f a b c m g0 g1 g2 g l x n v h is k stop = stopped_second (a m) (λ x. b m) (λ x y. c m >>= (λ z. from_result (f x y z))) g0 g1 g2 g l x n v h is k stop

pub member_stopped : (a : Operand) (os : List Operand) (m : Mode) (g0 g1 g : List Aggregate) (l : Result Typed Refusal) (v : Refusal) → Leaves l g1 (a m g0) → l ≡ Err v → Leaves {A = Typed} (Err v) g (membership a os m g0)
unfolding membership
member_stopped a os m g0 g1 g l v h is = stopped (a m) (λ x. each os m >>= (λ ys. from_result (in_list x ys))) g0 g1 g l v h is

pub chain_stopped : (a : Operand) (ls : List (Operator × Operand)) (m : Mode) (g0 g1 g : List Aggregate) (l : Result Typed Refusal) (v : Refusal) → Leaves l g1 (a m g0) → l ≡ Err v → Leaves {A = Typed} (Err v) g (chain a ls m g0)
unfolding chain
chain_stopped a ls m g0 g1 g l v h is = stopped (a m) (λ x. links x.kind ls m >>= (λ c. from_result (Ok (chain_of x c)))) g0 g1 g l v h is

pub junction_stopped : (join : Typed → List TypedExpr → Typed) (a : Operand) (os : List Operand) (m : Mode) (g0 g1 g : List Aggregate) (l : Result Typed Refusal) (v : Refusal) → Leaves l g1 (a m g0) → l ≡ Err v → Leaves {A = Typed} (Err v) g (junction join a os m g0)
unfolding junction
junction_stopped join a os m g0 g1 g l v h is = stopped (a m) (λ x. conditions x.kind os m >>= (λ es. from_result (Ok (join x es)))) g0 g1 g l v h is

pub searched_stopped : (os : List (Operand × Operand)) (other : Option Operand) (m : Mode) (g0 g1 g : List Aggregate) (l : Result (List TypedArm) Refusal) (v : Refusal) → Leaves l g1 (arms os m g0) → l ≡ Err v → Leaves {A = Typed} (Err v) g (searched_case os other m g0)
unfolding searched_case
searched_stopped os other m g0 g1 g l v h is = stopped (arms os m) (λ xs. optional other m >>= (λ y. from_result (case_of xs y))) g0 g1 g l v h is

pub simple_stopped : (a : Operand) (os : List (Operand × Operand)) (other : Option Operand) (m : Mode) (g0 g1 g : List Aggregate) (l : Result Typed Refusal) (v : Refusal) → Leaves l g1 (a m g0) → l ≡ Err v → Leaves {A = Typed} (Err v) g (simple_case a os other m g0)
unfolding simple_case
simple_stopped a os other m g0 g1 g l v h is = stopped (a m) (λ x. compared_arms x.kind os m >>= (λ xs. optional other m >>= (λ y. from_result (match_of x xs y)))) g0 g1 g l v h is

pub simple_stopped_second : (a : Operand) (os : List (Operand × Operand)) (other : Option Operand) (m : Mode) (g0 g1 g2 g : List Aggregate) (l : Result Typed Refusal) (x : Typed) (n : Result (List TypedArm) Refusal) (v : Refusal) → Leaves l g1 (a m g0) → l ≡ Ok x → Leaves n g2 (compared_arms x.kind os m g1) → n ≡ Err v → Leaves {A = Typed} (Err v) g (simple_case a os other m g0)
unfolding simple_case
simple_stopped_second a os other m g0 g1 g2 g l x n v h is k stop = stopped_second (a m) (λ x. compared_arms x.kind os m) (λ x xs. optional other m >>= (λ y. from_result (match_of x xs y))) g0 g1 g2 g l x n v h is k stop

pub unknown_stopped : (os : List Operand) (m : Mode) (g0 g1 g : List Aggregate) (l : Result (List Typed) Refusal) (v : Refusal) → Leaves l g1 (each os m g0) → l ≡ Err v → Leaves {A = Typed} (Err v) g (unknown_call os m g0)
unfolding unknown_call
unknown_stopped os m g0 g1 g l v h is = stopped (each os m) (λ xs. from_result (Err refusal.TypeMismatch)) g0 g1 g l v h is

pub function_stopped : (f : CalledFunction) (os : List Operand) (m : Mode) (g0 g1 g : List Aggregate) (l : Result (List Typed) Refusal) (v : Refusal) → Leaves l g1 (each os m g0) → l ≡ Err v → Leaves {A = Typed} (Err v) g (function_call f os m g0)
unfolding function_call
function_stopped f os m g0 g1 g l v h is = stopped (each os m) (λ xs. from_result (apply_function f xs)) g0 g1 g l v h is

pub aggregate_stopped : (scope : Scope) (f : Function) (os : List Operand) (m : Mode) (g0 g1 g : List Aggregate) (l : Result (List Typed) Refusal) (v : Refusal) → Leaves l g1 (each os Rows g0) → l ≡ Err v → Leaves {A = Typed} (Err v) g (aggregate_call scope f os m g0)
unfolding aggregate_call
aggregate_stopped scope f os m g0 g1 g l v h is = stopped (each os Rows) (aggregate scope m f) g0 g1 g l v h is
