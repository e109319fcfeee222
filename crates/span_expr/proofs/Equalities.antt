-- Equalities of two columns, and the rows that they refuse.
use Rattle.std.proofs.Common.{◌≡◌, ◌≢◌, ◌∙◌, sym, ap, refl, ℕ, Bool, true, false, ◌&&◌, ◌||◌, ◌==◌, List, Option, Some, None, ◌⊎◌, inl, inr, arith, if◌then◌else◌}
use Rattle.std.specs.Option.{option_map}
use Rattle.std.specs.declared.cmp.Ordering.{Ordering}
use Rattle.std.specs.declared.cmp.Ordering.TheVariants.{Less, Equal, Greater}
use Rattle.std.proofs.lemmas.Bool.Decides.{nat_tests}
use Rattle.std.proofs.lemmas.Bool.{or_cases}
use Rattle.span_value.specs.declared.value.Value.{Value}
use Rattle.span_value.specs.declared.value.Value.TheVariants as value
use Rattle.span_value.specs.declared.truth.Outcome.{Outcome}
use Rattle.span_value.specs.declared.truth.Outcome.TheVariants.{Val}
use Rattle.span_value.specs.Orders.{value_order}
use Rattle.span_value.proofs.Total.{value_order_equal}
use Rattle.span_expr.specs.declared.expr.Comparison.{Comparison}
use Rattle.span_expr.specs.declared.expr.Comparison.TheVariants as comparison
use Rattle.span_expr.specs.declared.expr.Expr.{Expr}
use Rattle.span_expr.specs.declared.expr.Expr.TheOpen.{Expr-F}
use Rattle.span_expr.specs.declared.expr.Expr.TheViews.{out-Expr}
use Rattle.span_expr.specs.declared.expr.Expr.TheFolds.{map-Expr, fold_out-Expr}
use Rattle.span_expr.specs.Outcomes.{is_null, strict}
use Rattle.span_expr.specs.Operators.{compare_values, holds, column_of}
use Rattle.span_expr.specs.Meaning.{at_operands, val}
use Rattle.span_expr.specs.Conjuncts.{is_refused}
use Rattle.span_expr.specs.Forms.{column_at, as_column, places_if_equal, equality_at, as_equality, are_places, is_equality}

-- ---- values

-- values that differ are not equal
pub compare_values-unequal : (v w : Value) → v ≢ w → is_refused (compare_values comparison.Equal v w) ≡ true
compare_values-unequal v w differ = of_test (is_null v || is_null w) (value_order v w) (λ e. differ (value_order_equal v w e)) where
  of_test : (b : Bool) (o : Ordering) → (o ≢ Equal) → is_refused (if b then Val value.Null else Val (value.Bool (holds comparison.Equal o))) ≡ true
  of_test true o other = refl
  of_test false Less other = refl
  of_test false Equal other = absurd (other refl)
  of_test false Greater other = refl

-- NULL is not equal to anything
pub compare_values-null : (v w : Value) → (is_null v || is_null w) ≡ true → is_refused (compare_values comparison.Equal v w) ≡ true
compare_values-null v w is = ap (λ (b : Bool). is_refused (if b then Val value.Null else Val (value.Bool (holds comparison.Equal (value_order v w))))) is

-- ---- columns

column_value : (row : List Value) (y : Expr-F Expr) (i : ℕ) → column_at y ≡ Some i → at_operands row (map-Expr Expr Outcome (val row) y) ≡ Val (column_of row i)
column_value row (Expr-F.Column k) i is = let same : k ≡ i = cc in ap (λ (n : ℕ). Val (column_of row n)) same
column_value row y i is = absurd (let q : None ≡ Some i = is in cc)

-- the value of a column
pub val-column : (row : List Value) (e : Expr) (i : ℕ) → as_column e ≡ Some i → val row e ≡ Val (column_of row i)
val-column row e i is = fold_out-Expr Outcome (at_operands row) e ∙ column_value row (out-Expr e) i is

places_are : (c : Comparison) (a b : Option ℕ) (i k : ℕ) → places_if_equal c a b ≡ Some (i, k) → (c ≡ comparison.Equal) × (a ≡ Some i) × (b ≡ Some k)
places_are comparison.Equal (Some a) (Some b) i k is = (refl, ap (option_map (λ (p : ℕ × ℕ). p.0)) is, ap (option_map (λ (p : ℕ × ℕ). p.1)) is)
places_are comparison.Equal (Some a) None i k is = absurd (let q : None ≡ Some (i, k) = is in cc)
places_are comparison.Equal None b i k is = absurd (let q : None ≡ Some (i, k) = is in cc)
places_are comparison.NotEqual a b i k is = absurd (let q : None ≡ Some (i, k) = is in cc)
places_are comparison.Less a b i k is = absurd (let q : None ≡ Some (i, k) = is in cc)
places_are comparison.AtMost a b i k is = absurd (let q : None ≡ Some (i, k) = is in cc)
places_are comparison.Greater a b i k is = absurd (let q : None ≡ Some (i, k) = is in cc)
places_are comparison.AtLeast a b i k is = absurd (let q : None ≡ Some (i, k) = is in cc)

equality_value : (row : List Value) (y : Expr-F Expr) (i k : ℕ) → equality_at y ≡ Some (i, k) → at_operands row (map-Expr Expr Outcome (val row) y) ≡ compare_values comparison.Equal (column_of row i) (column_of row k)
equality_value row (Expr-F.Compare a c b) i k is =
    let parts : (c ≡ comparison.Equal) × (as_column a ≡ Some i) × (as_column b ≡ Some k) = places_are c (as_column a) (as_column b) i k is in
    ap (λ (d : Comparison). strict (compare_values d) (val row a) (val row b)) parts.0
    ∙ ap (λ (o : Outcome). strict (compare_values comparison.Equal) o (val row b)) (val-column row a i parts.1)
    ∙ ap (λ (o : Outcome). strict (compare_values comparison.Equal) (Val (column_of row i)) o) (val-column row b k parts.2)
equality_value row y i k is = absurd (let q : None ≡ Some (i, k) = is in cc)

-- an equality of two columns compares their values
pub val-equality : (row : List Value) (e : Expr) (i k : ℕ) → as_equality e ≡ Some (i, k) → val row e ≡ compare_values comparison.Equal (column_of row i) (column_of row k)
val-equality row e i k is = fold_out-Expr Outcome (at_operands row) e ∙ equality_value row (out-Expr e) i k is

-- it refuses a row where they differ
pub is_refused-unequal : (row : List Value) (e : Expr) (i k : ℕ) → as_equality e ≡ Some (i, k) → column_of row i ≢ column_of row k → is_refused (val row e) ≡ true
is_refused-unequal row e i k is differ = ap is_refused (val-equality row e i k is) ∙ compare_values-unequal (column_of row i) (column_of row k) differ

-- and where one of them is NULL
pub is_refused-null : (row : List Value) (e : Expr) (i k : ℕ) → as_equality e ≡ Some (i, k) → (is_null (column_of row i) || is_null (column_of row k)) ≡ true → is_refused (val row e) ≡ true
is_refused-null row e i k is null = ap is_refused (val-equality row e i k is) ∙ compare_values-null (column_of row i) (column_of row k) null

-- ---- either column first

are_both : (p q i k : ℕ) → ((p == i) && (q == k)) ≡ true → (p ≡ i) × (q ≡ k)
are_both p q i k is = (grind (arith, nat_tests), grind (arith, nat_tests))

which_way : (i k : ℕ) (o : Option (ℕ × ℕ)) → are_places i k o ≡ true → (o ≡ Some (i, k)) ⊎ (o ≡ Some (k, i))
which_way i k None is = absurd (let q : false ≡ true = is in cc)
which_way i k (Some (p, q)) is = elim (or_cases ((p == i) && (q == k)) ((p == k) && (q == i)) is) [
  | inl first ↦ let s : (p ≡ i) × (q ≡ k) = are_both p q i k first in inl (ap (λ (n : ℕ). Some (n, q)) s.0 ∙ ap (λ (n : ℕ). Some (i, n)) s.1)
  | inr second ↦ let s : (p ≡ k) × (q ≡ i) = are_both p q k i second in inr (ap (λ (n : ℕ). Some (n, q)) s.0 ∙ ap (λ (n : ℕ). Some (k, n)) s.1)
]

pub is_refused-is_equality : (row : List Value) (e : Expr) (i k : ℕ) → is_equality i k e ≡ true → column_of row i ≢ column_of row k → is_refused (val row e) ≡ true
is_refused-is_equality row e i k is differ = elim (which_way i k (as_equality e) is) [
  | inl first ↦ is_refused-unequal row e i k first differ
  | inr second ↦ is_refused-unequal row e k i second (λ same. differ (sym same))
]
