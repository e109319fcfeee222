-- Comparisons of columns and literals, and several conditions joined by AND or by OR.
use Rattle.std.proofs.Common.{◌≡◌, ◌∙◌, ℕ, zero, suc, ◌<◌, Bool, true, false, List, [], ◌∷◌, map, take, length, get_or, refl, sym, ap, if◌then◌else◌, arith}
use Rattle.std.specs.Prelude.{◌||◌}
use Rattle.std.specs.List.{fold}
use Rattle.span_value.specs.declared.value.Value.{Value}
use Rattle.span_value.specs.declared.value.Value.TheVariants as value
use Rattle.span_value.specs.declared.truth.Outcome.{Outcome}
use Rattle.span_value.specs.declared.truth.Outcome.TheVariants.{Val, Fault}
use Rattle.span_value.specs.declared.truth.Truth.TheVariants.{False, True, Unknown}
use Rattle.span_value.specs.Truths.{and, or}
use Rattle.span_value.specs.Orders.{value_order}
use Rattle.span_expr.specs.declared.expr.Expr.{Expr}
use Rattle.span_expr.specs.declared.expr.Expr.TheVariants.{Compare, rolls-Compare}
use Rattle.span_expr.specs.declared.expr.Expr.TheFolds.{fold-roll-Expr}
use Rattle.span_expr.specs.declared.expr.Expr.TheOpen.{Expr-F}
use Rattle.span_expr.specs.declared.expr.Comparison.{Comparison}
use Rattle.span_expr.specs.declared.condition.Condition.{Condition}
use Rattle.span_expr.specs.declared.condition.Condition.TheVariants as condition
use Rattle.span_expr.specs.Meaning.{all_of, any_of, and_also, or_else, at_operands, val}
use Rattle.span_expr.specs.Operators as operators
use Rattle.span_expr.specs.Outcomes.{condition_of, is_null, outcome_of, strict, truth_of}
use Rattle.span_query.specs.Rows.{Row}

val_compare : (row : Row) (left right : Expr) (c : Comparison) → val row (Compare left c right) ≡ strict (operators.compare_values c) (val row left) (val row right)
val_compare row left right c = ap (val row) (sym (rolls-Compare left c right)) ∙ fold-roll-Expr Outcome (at_operands row) (Expr-F.Compare left c right)

-- a comparison of values that are known
pub comparison_comes : (row : Row) (left right : Expr) (c : Comparison) (v w : Value) → val row left ≡ Val v → val row right ≡ Val w → is_null v ≡ false → is_null w ≡ false
    → val row (Compare left c right) ≡ Val (value.Bool (operators.holds c (value_order v w)))
comparison_comes row left right c v w has also known_v known_w =
    val_compare row left right c
    ∙ ap (λ (o : Outcome). strict (operators.compare_values c) o (val row right)) has
    ∙ ap (λ (o : Outcome). strict (operators.compare_values c) (Val v) o) also
    ∙ ap (λ (b : Bool). if b || is_null w then Val value.Null else Val (value.Bool (operators.holds c (value_order v w)))) known_v
    ∙ ap (λ (b : Bool). if b then Val value.Null else Val (value.Bool (operators.holds c (value_order v w)))) known_w

-- ---- several, joined by AND or by OR

-- the first ones are all TRUE
abbrev pub AllSoFar : Row → Expr → List Expr → ℕ → Type 0
AllSoFar row first more i = fold and_also (condition_of (val row first)) (map (val row) (take i more)) ≡ condition.Known True

-- the first ones are all FALSE
abbrev pub NoneSoFar : Row → Expr → List Expr → ℕ → Type 0
NoneSoFar row first more i = fold or_else (condition_of (val row first)) (map (val row) (take i more)) ≡ condition.Known False

false_stays_at : (o : Outcome) → and_also (condition.Known False) o ≡ condition.Known False
false_stays_at Fault = refl
false_stays_at (Val v) = elim (truth_of v) as (λ t. condition.Known (and False t) ≡ condition.Known False) [
  | True ↦ refl
  | False ↦ refl
  | Unknown ↦ refl
]

true_stays_at : (o : Outcome) → or_else (condition.Known True) o ≡ condition.Known True
true_stays_at Fault = refl
true_stays_at (Val v) = elim (truth_of v) as (λ t. condition.Known (or True t) ≡ condition.Known True) [
  | True ↦ refl
  | False ↦ refl
  | Unknown ↦ refl
]

-- what is FALSE stays FALSE, whatever comes after it
pub false_stays : (os : List Outcome) → fold and_also (condition.Known False) os ≡ condition.Known False
false_stays [] = refl
false_stays (o ∷ os) = ap (λ c. fold and_also c os) (false_stays_at o) ∙ false_stays os

-- what is TRUE stays TRUE
pub true_stays : (os : List Outcome) → fold or_else (condition.Known True) os ≡ condition.Known True
true_stays [] = refl
true_stays (o ∷ os) = ap (λ c. fold or_else c os) (true_stays_at o) ∙ true_stays os

-- the first is FALSE
pub first_false : (row : Row) (first : Expr) (more : List Expr) → val row first ≡ Val (value.Bool false) → all_of (val row first) (map (val row) more) ≡ Val (value.Bool false)
first_false row first more is =
    ap (λ (o : Outcome). all_of o (map (val row) more)) is ∙ ap outcome_of (false_stays (map (val row) more))

-- the first is TRUE
pub first_true : (row : Row) (first : Expr) (more : List Expr) → val row first ≡ Val (value.Bool true) → any_of (val row first) (map (val row) more) ≡ Val (value.Bool true)
first_true row first more is =
    ap (λ (o : Outcome). any_of o (map (val row) more)) is ∙ ap outcome_of (true_stays (map (val row) more))

-- one is FALSE, and what comes before it TRUE
false_from : (row : Row) (before : Condition) (more : List Expr) (i : ℕ) (e : Expr) → fold and_also before (map (val row) (take i more)) ≡ condition.Known True
    → i < length more → e ≡ get_or more i e → val row e ≡ Val (value.Bool false) → fold and_also before (map (val row) more) ≡ condition.Known False
false_from row before [] i e so_far inside is comes = absurd (omega (arith, inside))
false_from row before (x ∷ more) zero e so_far inside is comes =
    ap (λ (c : Condition). fold and_also (and_also c (val row x)) (map (val row) more)) so_far
    ∙ ap (λ (o : Outcome). fold and_also (and_also (condition.Known True) o) (map (val row) more)) (ap (val row) (sym is) ∙ comes)
    ∙ false_stays (map (val row) more)
false_from row before (x ∷ more) (suc i) e so_far inside is comes = false_from row (and_also before (val row x)) more i e so_far (omega (arith, inside)) is comes

-- one is TRUE, and what comes before it FALSE
true_from : (row : Row) (before : Condition) (more : List Expr) (i : ℕ) (e : Expr) → fold or_else before (map (val row) (take i more)) ≡ condition.Known False
    → i < length more → e ≡ get_or more i e → val row e ≡ Val (value.Bool true) → fold or_else before (map (val row) more) ≡ condition.Known True
true_from row before [] i e so_far inside is comes = absurd (omega (arith, inside))
true_from row before (x ∷ more) zero e so_far inside is comes =
    ap (λ (c : Condition). fold or_else (or_else c (val row x)) (map (val row) more)) so_far
    ∙ ap (λ (o : Outcome). fold or_else (or_else (condition.Known False) o) (map (val row) more)) (ap (val row) (sym is) ∙ comes)
    ∙ true_stays (map (val row) more)
true_from row before (x ∷ more) (suc i) e so_far inside is comes = true_from row (or_else before (val row x)) more i e so_far (omega (arith, inside)) is comes

pub one_false : (row : Row) (first : Expr) (more : List Expr) (i : ℕ) (e : Expr) → AllSoFar row first more i → i < length more → e ≡ get_or more i e
    → val row e ≡ Val (value.Bool false) → all_of (val row first) (map (val row) more) ≡ Val (value.Bool false)
one_false row first more i e so_far inside is comes = ap outcome_of (false_from row (condition_of (val row first)) more i e so_far inside is comes)

pub one_true : (row : Row) (first : Expr) (more : List Expr) (i : ℕ) (e : Expr) → NoneSoFar row first more i → i < length more → e ≡ get_or more i e
    → val row e ≡ Val (value.Bool true) → any_of (val row first) (map (val row) more) ≡ Val (value.Bool true)
one_true row first more i e so_far inside is comes = ap outcome_of (true_from row (condition_of (val row first)) more i e so_far inside is comes)
