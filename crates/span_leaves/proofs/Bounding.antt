-- A condition that bounds a column is refused at a row whose column is out of the bound.
use Rattle.std.proofs.Common.{◌≡◌, ◌∙◌, ℕ, ℤ, pos, negsuc, ◌==◌, nat_lt, Bool, true, false, not, ◌&&◌, ◌||◌, List, [], ◌∷◌, ◌++◌, Option, Some, None, refl, ap, sym, subst, arith, ◌⊎◌, inl, inr}
use Rattle.std.specs.Prelude.{filter, flat_map, if◌then◌else◌, FitsSigned}
use Rattle.std.specs.Option.{option_map}
use Rattle.std.specs.List.{AllByRecursion, list_all}
use Rattle.std.specs.Int.{w64}
use Rattle.std.specs.Str.{is_utf8}
use Rattle.std.specs.Ordering.{bool_cmp, ordering_reverse}
use Rattle.std.specs.declared.cmp.Ordering.{Ordering}
use Rattle.std.specs.declared.cmp.Ordering.TheVariants.{Less, Equal, Greater}
use Rattle.std.proofs.lemmas.Bool.Decides.{nat_tests}
use Rattle.std.proofs.lemmas.Bool.{and_from, and_parts}
use Rattle.std.proofs.lemmas.Str.{IsUtf8-from_is_utf8}
use Rattle.span_value.specs.declared.value.Kind.{Kind}
use Rattle.span_value.specs.declared.value.Kind.TheVariants as kind
use Rattle.span_value.specs.declared.value.Value.{Value}
use Rattle.span_value.specs.declared.value.Value.TheVariants as value
use Rattle.span_value.specs.declared.truth.Outcome.{Outcome}
use Rattle.span_value.specs.declared.truth.Outcome.TheVariants.{Val}
use Rattle.span_value.specs.Orders.{value_order}
use Rattle.span_value.proofs.Total.{turned_is}
use Rattle.span_schema.specs.Fitting.{Fits, AreBytes}
use Rattle.span_keycode.specs.declared.range.RangeComparison.{RangeComparison}
use Rattle.span_keycode.specs.declared.range.RangeComparison.TheVariants as range
use Rattle.span_keycode.specs.Ranges as ranges
use Rattle.span_keycode.specs.Ranges.{compares}
use Rattle.span_keycode.specs.Coding.{value_cmp}
use Rattle.span_expr.specs.declared.expr.Comparison.{Comparison}
use Rattle.span_expr.specs.declared.expr.Comparison.TheVariants as comparison
use Rattle.span_expr.specs.declared.expr.Expr.{Expr}
use Rattle.span_expr.specs.declared.expr.Expr.TheOpen.{Expr-F}
use Rattle.span_expr.specs.declared.expr.Expr.TheViews.{out-Expr}
use Rattle.span_expr.specs.declared.expr.Expr.TheFolds.{fold_out-Expr, map-Expr}
use Rattle.span_expr.specs.Outcomes as outcomes
use Rattle.span_expr.specs.Operators.{column_of, compare_values, holds}
use Rattle.span_expr.specs.Meaning.{val, at_operands, between, total_at, is_total}
use Rattle.span_expr.specs.Conjuncts.{is_refused}
use Rattle.span_expr.specs.Places.{is_in, reads_at, reads_only}
use Rattle.span_expr.specs.Forms.{column_at, as_column, literal_at, as_literal}
use Rattle.span_expr.proofs.Conjuncts.{refuses, refuses-both, refuses-condition_of, is_refused-outcome_of}
use Rattle.span_expr.proofs.Equalities.{val-column}
use Rattle.span_leaves.specs.Conditions.{conjuncts_on}
use Rattle.span_leaves.proofs.Pushing.{is_left_out}
use Rattle.span_leaves.specs.Ranges.{KeyBound, bound_of, exchanged, bound_at, bounds_between, bounds_at, bounds, are_bytes, is_of_type, bounds_by}
use Rattle.span_value.specs.Numbers.{is_int64}
use Rattle.std.proofs.Math.Bool.{or-true, and_assoc}

-- ---- values of a type

bytes_are : (bs : List ℕ) → are_bytes bs ≡ true → AreBytes bs
bytes_are [] is = tt {0}
bytes_are (b ∷ bs) is = let parts = and_parts (nat_lt b 256) (are_bytes bs) is in ((let e : nat_lt b 256 ≡ true = parts.0 in grind (arith, nat_tests)), bytes_are bs parts.1)

number_fits : (i : ℤ) → is_int64 i ≡ true → FitsSigned w64 i
number_fits (pos n) is = record { sfits = grind (arith, nat_tests) }
number_fits (negsuc n) is = record { sfits = grind (arith, nat_tests) }

-- a value that passes the test fits
pub fits_type : (k : Kind) (v : Value) → is_of_type k v ≡ true → Fits k v
fits_type k value.Null is = tt {0}
fits_type kind.Int (value.Int i) is = number_fits i is
fits_type kind.Str (value.Str bs) is = let parts = and_parts (is_utf8 bs) (are_bytes bs) is in (IsUtf8-from_is_utf8 bs parts.0, bytes_are bs parts.1)
fits_type kind.Bytes (value.Bytes bs) is = bytes_are bs is
fits_type kind.Bool (value.Bool b) is = tt {0}
fits_type kind.Int (value.Str bs) is = cc
fits_type kind.Int (value.Bytes bs) is = cc
fits_type kind.Int (value.Bool b) is = cc
fits_type kind.Str (value.Int i) is = cc
fits_type kind.Str (value.Bytes bs) is = cc
fits_type kind.Str (value.Bool b) is = cc
fits_type kind.Bytes (value.Int i) is = cc
fits_type kind.Bytes (value.Str bs) is = cc
fits_type kind.Bytes (value.Bool b) is = cc
fits_type kind.Bool (value.Int i) is = cc
fits_type kind.Bool (value.Str bs) is = cc
fits_type kind.Bool (value.Bytes bs) is = cc

-- ---- comparisons of two values of a type

-- the comparison of a bound is that of the expression
pub bound_holds : (c : Comparison) (r : RangeComparison) → bound_of c ≡ Some r → (o : Ordering) → holds c o ≡ ranges.holds r o
bound_holds comparison.Equal r is o = let e : range.Equal ≡ r = cc in ap (λ (x : RangeComparison). ranges.holds x o) e
bound_holds comparison.NotEqual r is o = cc
bound_holds comparison.Less r is o = let e : range.Less ≡ r = cc in ap (λ (x : RangeComparison). ranges.holds x o) e
bound_holds comparison.AtMost r is o = let e : range.AtMost ≡ r = cc in ap (λ (x : RangeComparison). ranges.holds x o) e
bound_holds comparison.Greater r is o = let e : range.Greater ≡ r = cc in ap (λ (x : RangeComparison). ranges.holds x o) e
bound_holds comparison.AtLeast r is o = let e : range.AtLeast ≡ r = cc in ap (λ (x : RangeComparison). ranges.holds x o) e

bits_order : (a b : Bool) → bool_cmp a b ≡ value_cmp (value.Bool a) (value.Bool b)
bits_order true true = refl
bits_order true false = refl
bits_order false true = refl
bits_order false false = refl

-- the two orders agree where neither is NULL and both are of one type
same_order : (k : Kind) (v w : Value) → Fits k v → Fits k w → outcomes.is_null v ≡ false → outcomes.is_null w ≡ false → value_order v w ≡ value_cmp v w
same_order kind.Int value.Null w fv fw nv nw = cc
same_order kind.Int (value.Int a) value.Null fv fw nv nw = cc
same_order kind.Int (value.Int a) (value.Int b) fv fw nv nw = refl
same_order kind.Int (value.Int a) (value.Str b) fv fw nv nw = absurd fw
same_order kind.Int (value.Int a) (value.Bytes b) fv fw nv nw = absurd fw
same_order kind.Int (value.Int a) (value.Bool b) fv fw nv nw = absurd fw
same_order kind.Int (value.Str a) w fv fw nv nw = absurd fv
same_order kind.Int (value.Bytes a) w fv fw nv nw = absurd fv
same_order kind.Int (value.Bool a) w fv fw nv nw = absurd fv
same_order kind.Str value.Null w fv fw nv nw = cc
same_order kind.Str (value.Int a) w fv fw nv nw = absurd fv
same_order kind.Str (value.Str a) value.Null fv fw nv nw = cc
same_order kind.Str (value.Str a) (value.Int b) fv fw nv nw = absurd fw
same_order kind.Str (value.Str a) (value.Str b) fv fw nv nw = refl
same_order kind.Str (value.Str a) (value.Bytes b) fv fw nv nw = absurd fw
same_order kind.Str (value.Str a) (value.Bool b) fv fw nv nw = absurd fw
same_order kind.Str (value.Bytes a) w fv fw nv nw = absurd fv
same_order kind.Str (value.Bool a) w fv fw nv nw = absurd fv
same_order kind.Bytes value.Null w fv fw nv nw = cc
same_order kind.Bytes (value.Int a) w fv fw nv nw = absurd fv
same_order kind.Bytes (value.Str a) w fv fw nv nw = absurd fv
same_order kind.Bytes (value.Bytes a) value.Null fv fw nv nw = cc
same_order kind.Bytes (value.Bytes a) (value.Int b) fv fw nv nw = absurd fw
same_order kind.Bytes (value.Bytes a) (value.Str b) fv fw nv nw = absurd fw
same_order kind.Bytes (value.Bytes a) (value.Bytes b) fv fw nv nw = refl
same_order kind.Bytes (value.Bytes a) (value.Bool b) fv fw nv nw = absurd fw
same_order kind.Bytes (value.Bool a) w fv fw nv nw = absurd fv
same_order kind.Bool value.Null w fv fw nv nw = cc
same_order kind.Bool (value.Int a) w fv fw nv nw = absurd fv
same_order kind.Bool (value.Str a) w fv fw nv nw = absurd fv
same_order kind.Bool (value.Bytes a) w fv fw nv nw = absurd fv
same_order kind.Bool (value.Bool a) value.Null fv fw nv nw = cc
same_order kind.Bool (value.Bool a) (value.Int b) fv fw nv nw = absurd fw
same_order kind.Bool (value.Bool a) (value.Str b) fv fw nv nw = absurd fw
same_order kind.Bool (value.Bool a) (value.Bytes b) fv fw nv nw = absurd fw
same_order kind.Bool (value.Bool a) (value.Bool b) fv fw nv nw = bits_order a b

-- NULL is the same to both
null_same : (v : Value) → ranges.is_null v ≡ outcomes.is_null v
null_same value.Null = refl
null_same (value.Int a) = refl
null_same (value.Str a) = refl
null_same (value.Bytes a) = refl
null_same (value.Bool a) = refl

-- a comparison that does not hold is FALSE, or NULL where one side is
comparison_refused : (k : Kind) (c : Comparison) (r : RangeComparison) → bound_of c ≡ Some r → (v w : Value) → Fits k v → Fits k w → compares r v w ≡ false → is_refused (compare_values c v w) ≡ true
comparison_refused k c r is v w fv fw out = of_nulls (outcomes.is_null v) (outcomes.is_null w) refl refl where
  of_nulls : (a b : Bool) → outcomes.is_null v ≡ a → outcomes.is_null w ≡ b → is_refused (if a || b then Val value.Null else Val (value.Bool (holds c (value_order v w)))) ≡ true
  of_nulls true b na nb = refl
  of_nulls false true na nb = refl
  of_nulls false false na nb =
      let order : holds c (value_order v w) ≡ ranges.holds r (value_cmp v w) = bound_holds c r is (value_order v w) ∙ ap (ranges.holds r) (same_order k v w fv fw na nb) in
      let none : ranges.holds r (value_cmp v w) ≡ false =
      sym (ap (λ (b : Bool). not b && (not (ranges.is_null w) && ranges.holds r (value_cmp v w))) (null_same v ∙ na) ∙ ap (λ (b : Bool). not b && ranges.holds r (value_cmp v w)) (null_same w ∙ nb)) ∙ out in
      ap (λ (b : Bool). is_refused (Val (value.Bool b))) (order ∙ none)

exchanged_holds : (r : RangeComparison) (o : Ordering) → ranges.holds (exchanged r) o ≡ ranges.holds r (ordering_reverse o)
exchanged_holds range.Equal Less = refl
exchanged_holds range.Equal Equal = refl
exchanged_holds range.Equal Greater = refl
exchanged_holds range.Less Less = refl
exchanged_holds range.Less Equal = refl
exchanged_holds range.Less Greater = refl
exchanged_holds range.AtMost Less = refl
exchanged_holds range.AtMost Equal = refl
exchanged_holds range.AtMost Greater = refl
exchanged_holds range.Greater Less = refl
exchanged_holds range.Greater Equal = refl
exchanged_holds range.Greater Greater = refl
exchanged_holds range.AtLeast Less = refl
exchanged_holds range.AtLeast Equal = refl
exchanged_holds range.AtLeast Greater = refl

-- the same with the literal first
exchanged_refused : (k : Kind) (c : Comparison) (r : RangeComparison) → bound_of c ≡ Some r → (v w : Value) → Fits k v → Fits k w → compares (exchanged r) v w ≡ false → is_refused (compare_values c w v) ≡ true
exchanged_refused k c r is v w fv fw out = of_nulls (outcomes.is_null w) (outcomes.is_null v) refl refl where
  of_nulls : (a b : Bool) → outcomes.is_null w ≡ a → outcomes.is_null v ≡ b → is_refused (if a || b then Val value.Null else Val (value.Bool (holds c (value_order w v)))) ≡ true
  of_nulls true b nw nv = refl
  of_nulls false true nw nv = refl
  of_nulls false false nw nv =
      let order : holds c (value_order w v) ≡ ranges.holds (exchanged r) (value_cmp v w) =
      bound_holds c r is (value_order w v) ∙ ap (ranges.holds r) (turned_is v w (value_order v w) refl) ∙ sym (exchanged_holds r (value_order v w)) ∙ ap (ranges.holds (exchanged r)) (same_order k v w fv fw nv nw) in
      let none : ranges.holds (exchanged r) (value_cmp v w) ≡ false =
      sym (ap (λ (b : Bool). not b && (not (ranges.is_null w) && ranges.holds (exchanged r) (value_cmp v w))) (null_same v ∙ nv) ∙ ap (λ (b : Bool). not b && ranges.holds (exchanged r) (value_cmp v w)) (null_same w ∙ nw)) ∙ out in
      ap (λ (b : Bool). is_refused (Val (value.Bool b))) (order ∙ none)

-- ---- conditions that bound a column

literal_value : (row : List Value) (y : Expr-F Expr) (v : Value) → literal_at y ≡ Some v → at_operands row (map-Expr Expr Outcome (val row) y) ≡ Val v
literal_value row (Expr-F.Literal w) v is = let e : w ≡ v = cc in ap Val e
literal_value row y v is = absurd (let q : None ≡ Some v = is in cc)

val-literal : (row : List Value) (e : Expr) (v : Value) → as_literal e ≡ Some v → val row e ≡ Val v
val-literal row e v is = fold_out-Expr Outcome (at_operands row) e ∙ literal_value row (out-Expr e) v is

-- where the column is out of the bound, the outcome is FALSE or NULL
abbrev pub RefusedOut : Kind → Value → Outcome → KeyBound → Type 0
RefusedOut k v o b = Fits k b.1 → compares b.0 v b.1 ≡ false → is_refused o ≡ true

module _ (k : Kind) (row : List Value) (place : ℕ) (fits : Fits k (column_of row place)) where
  abbrev AreRefusedOut : Outcome → List KeyBound → Type 0
  AreRefusedOut o bs = AllByRecursion (RefusedOut k (column_of row place) o) bs

  all_append : (o : Outcome) (xs ys : List KeyBound) → AreRefusedOut o xs → AreRefusedOut o ys → AreRefusedOut o (xs ++ ys)
  all_append o [] ys p q = q
  all_append o (x ∷ xs) ys p q = (p.0, all_append o xs ys p.1 q)

  -- the column's value, where it is the one that is asked for
  here : (a : Expr) (p : ℕ) → as_column a ≡ Some p → (p == place) ≡ true → val row a ≡ Val (column_of row place)
  here a p is same = let e : p ≡ place = grind (arith, nat_tests) in val-column row a p is ∙ ap (λ (n : ℕ). Val (column_of row n)) e

  column_first : (c : Comparison) (a b : Expr) (p : Option ℕ) (r : Option RangeComparison) (w : Option Value) → as_column a ≡ p → bound_of c ≡ r → as_literal b ≡ w
      → AreRefusedOut (outcomes.strict (compare_values c) (val row a) (val row b)) (bound_at place p r w)
  column_first c a b None r w ea ec eb = tt {0}
  column_first c a b (Some p) None w ea ec eb = tt {0}
  column_first c a b (Some p) (Some r) None ea ec eb = tt {0}
  column_first c a b (Some p) (Some r) (Some w) ea ec eb = of_test (p == place) refl where
    of_test : (t : Bool) → (p == place) ≡ t → AreRefusedOut (outcomes.strict (compare_values c) (val row a) (val row b)) (if t then (r, w) ∷ [] else [])
    of_test false same = tt {0}
    of_test true same = (
      (λ fw out. ap (λ (o : Outcome). is_refused (outcomes.strict (compare_values c) o (val row b))) (here a p ea same)
          ∙ ap (λ (o : Outcome). is_refused (outcomes.strict (compare_values c) (Val (column_of row place)) o)) (val-literal row b w eb)
          ∙ comparison_refused k c r ec (column_of row place) w fits fw out),
      tt {0},
    )

  literal_first : (c : Comparison) (a b : Expr) (p : Option ℕ) (r : Option RangeComparison) (w : Option Value) → as_column b ≡ p → bound_of c ≡ r → as_literal a ≡ w
      → AreRefusedOut (outcomes.strict (compare_values c) (val row a) (val row b)) (bound_at place p (option_map exchanged r) w)
  literal_first c a b None r w eb ec ea = tt {0}
  literal_first c a b (Some p) None w eb ec ea = tt {0}
  literal_first c a b (Some p) (Some r) None eb ec ea = tt {0}
  literal_first c a b (Some p) (Some r) (Some w) eb ec ea = of_test (p == place) refl where
    of_test : (t : Bool) → (p == place) ≡ t → AreRefusedOut (outcomes.strict (compare_values c) (val row a) (val row b)) (if t then (exchanged r, w) ∷ [] else [])
    of_test false same = tt {0}
    of_test true same = (
      (λ fw out. ap (λ (o : Outcome). is_refused (outcomes.strict (compare_values c) o (val row b))) (val-literal row a w ea)
          ∙ ap (λ (o : Outcome). is_refused (outcomes.strict (compare_values c) (Val w) o)) (here b p eb same)
          ∙ exchanged_refused k c r ec (column_of row place) w fits fw out),
      tt {0},
    )

  -- an AND of which one side is FALSE or NULL is refused
  refused_and : (o p : Outcome) → (is_refused o || is_refused p) ≡ true → is_refused (outcomes.outcome_of (outcomes.both (outcomes.condition_of o) (outcomes.condition_of p))) ≡ true
  refused_and o p is =
      is_refused-outcome_of (outcomes.both (outcomes.condition_of o) (outcomes.condition_of p))
      ∙ refuses-both (outcomes.condition_of o) (outcomes.condition_of p)
      ∙ ap (λ (b : Bool). b || refuses (outcomes.condition_of p)) (refuses-condition_of o)
      ∙ ap (λ (b : Bool). is_refused o || b) (refuses-condition_of p)
      ∙ is

  column_between : (a low high : Expr) (p : Option ℕ) (l h : Option Value) → as_column a ≡ p → as_literal low ≡ l → as_literal high ≡ h
      → AreRefusedOut (between (val row a) (val row low) (val row high)) (bounds_between place p l h)
  column_between a low high None l h ea el eh = tt {0}
  column_between a low high (Some p) None h ea el eh = tt {0}
  column_between a low high (Some p) (Some l) None ea el eh = tt {0}
  column_between a low high (Some p) (Some l) (Some h) ea el eh = of_test (p == place) refl where
    of_test : (t : Bool) → (p == place) ≡ t → AreRefusedOut (between (val row a) (val row low) (val row high)) (if t then (range.AtLeast, l) ∷ (range.AtMost, h) ∷ [] else [])
    of_test false same = tt {0}
    of_test true same = (
      (λ fl out.
          let first : is_refused (outcomes.strict (compare_values comparison.AtLeast) (val row a) (val row low)) ≡ true =
          ap (λ (o : Outcome). is_refused (outcomes.strict (compare_values comparison.AtLeast) o (val row low))) (here a p ea same)
          ∙ ap (λ (o : Outcome). is_refused (outcomes.strict (compare_values comparison.AtLeast) (Val (column_of row place)) o)) (val-literal row low l el)
          ∙ comparison_refused k comparison.AtLeast range.AtLeast refl (column_of row place) l fits fl out in
          refused_and (outcomes.strict (compare_values comparison.AtLeast) (val row a) (val row low)) (outcomes.strict (compare_values comparison.AtMost) (val row a) (val row high))
          (ap (λ (b : Bool). b || is_refused (outcomes.strict (compare_values comparison.AtMost) (val row a) (val row high))) first)),
      (
        (λ fh out.
            let second : is_refused (outcomes.strict (compare_values comparison.AtMost) (val row a) (val row high)) ≡ true =
            ap (λ (o : Outcome). is_refused (outcomes.strict (compare_values comparison.AtMost) o (val row high))) (here a p ea same)
            ∙ ap (λ (o : Outcome). is_refused (outcomes.strict (compare_values comparison.AtMost) (Val (column_of row place)) o)) (val-literal row high h eh)
            ∙ comparison_refused k comparison.AtMost range.AtMost refl (column_of row place) h fits fh out in
            refused_and (outcomes.strict (compare_values comparison.AtLeast) (val row a) (val row low)) (outcomes.strict (compare_values comparison.AtMost) (val row a) (val row high))
            (ap (λ (b : Bool). is_refused (outcomes.strict (compare_values comparison.AtLeast) (val row a) (val row low)) || b) second ∙ or-true (is_refused (outcomes.strict (compare_values comparison.AtLeast) (val row a) (val row low))))),
        tt {0},
      ),
    )

  layer_out : (y : Expr-F Expr) → AreRefusedOut (at_operands row (map-Expr Expr Outcome (val row) y)) (bounds_at place y)
  layer_out (Expr-F.Compare a c b) =
      all_append (outcomes.strict (compare_values c) (val row a) (val row b)) (bound_at place (as_column a) (bound_of c) (as_literal b)) (bound_at place (as_column b) (option_map exchanged (bound_of c)) (as_literal a))
      (column_first c a b (as_column a) (bound_of c) (as_literal b) refl refl refl)
      (literal_first c a b (as_column b) (bound_of c) (as_literal a) refl refl refl)
  layer_out (Expr-F.Between a low high) = column_between a low high (as_column a) (as_literal low) (as_literal high) refl refl refl
  layer_out y = tt {0}

  -- a condition is refused where the column is out of one of its bounds
  pub refused_out : (e : Expr) → AreRefusedOut (val row e) (bounds place e)
  refused_out e = subst (λ (o : Outcome). AreRefusedOut o (bounds place e)) (sym (fold_out-Expr Outcome (at_operands row) e)) (layer_out (out-Expr e))

-- ---- a condition that bounds a column is total, and reads it alone

module _ (test : ℕ → Bool) where
  abbrev IsOnly : Expr → Type 0
  IsOnly e = (is_total e ≡ true) × (reads_only test e ≡ true)

  only_column : (y : Expr-F Expr) (p : ℕ) → column_at y ≡ Some p → test p ≡ true → (total_at (map-Expr Expr Bool is_total y) ≡ true) × (reads_at test (map-Expr Expr Bool (reads_only test) y) ≡ true)
  only_column (Expr-F.Column q) p is passes = let e : q ≡ p = cc in (refl, ap test e ∙ passes)
  only_column y p is passes = absurd (let q : None ≡ Some p = is in cc)

  only_literal : (y : Expr-F Expr) (v : Value) → literal_at y ≡ Some v → (total_at (map-Expr Expr Bool is_total y) ≡ true) × (reads_at test (map-Expr Expr Bool (reads_only test) y) ≡ true)
  only_literal (Expr-F.Literal w) v is = (refl, refl)
  only_literal y v is = absurd (let q : None ≡ Some v = is in cc)

  of_layer : (e : Expr) → ((total_at (map-Expr Expr Bool is_total (out-Expr e)) ≡ true) × (reads_at test (map-Expr Expr Bool (reads_only test) (out-Expr e)) ≡ true)) → IsOnly e
  of_layer e is = (fold_out-Expr Bool total_at e ∙ is.0, fold_out-Expr Bool (reads_at test) e ∙ is.1)

  column_only : (e : Expr) (p : ℕ) → as_column e ≡ Some p → test p ≡ true → IsOnly e
  column_only e p is passes = of_layer e (only_column (out-Expr e) p is passes)

  literal_only : (e : Expr) (v : Value) → as_literal e ≡ Some v → IsOnly e
  literal_only e v is = of_layer e (only_literal (out-Expr e) v is)

  -- a list that has nothing, or a condition that is so
  abbrev OnlyIf : List KeyBound → Type 0 → Type 0
  OnlyIf bs P = (bs ≡ []) ⊎ P

  first_only : (place : ℕ) → test place ≡ true → (a b : Expr) (p : Option ℕ) (r : Option RangeComparison) (w : Option Value) → as_column a ≡ p → as_literal b ≡ w → OnlyIf (bound_at place p r w) (IsOnly a × IsOnly b)
  first_only place passes a b None r w ea eb = inl refl
  first_only place passes a b (Some p) None w ea eb = inl refl
  first_only place passes a b (Some p) (Some r) None ea eb = inl refl
  first_only place passes a b (Some p) (Some r) (Some w) ea eb = of_test (p == place) refl where
    of_test : (t : Bool) → (p == place) ≡ t → OnlyIf (if t then (r, w) ∷ [] else []) (IsOnly a × IsOnly b)
    of_test false same = inl refl
    of_test true same = let e : p ≡ place = grind (arith, nat_tests) in inr (column_only a p ea (ap test e ∙ passes), literal_only b w eb)

  between_only : (place : ℕ) → test place ≡ true → (a low high : Expr) (p : Option ℕ) (l h : Option Value) → as_column a ≡ p → as_literal low ≡ l → as_literal high ≡ h → OnlyIf (bounds_between place p l h) (IsOnly a × (IsOnly low × IsOnly high))
  between_only place passes a low high None l h ea el eh = inl refl
  between_only place passes a low high (Some p) None h ea el eh = inl refl
  between_only place passes a low high (Some p) (Some l) None ea el eh = inl refl
  between_only place passes a low high (Some p) (Some l) (Some h) ea el eh = of_test (p == place) refl where
    of_test : (t : Bool) → (p == place) ≡ t → OnlyIf (if t then (range.AtLeast, l) ∷ (range.AtMost, h) ∷ [] else []) (IsOnly a × (IsOnly low × IsOnly high))
    of_test false same = inl refl
    of_test true same = let e : p ≡ place = grind (arith, nat_tests) in inr (column_only a p ea (ap test e ∙ passes), (literal_only low l el, literal_only high h eh))

  abbrev LayerOnly : Expr-F Expr → Type 0
  LayerOnly y = (total_at (map-Expr Expr Bool is_total y) ≡ true) × (reads_at test (map-Expr Expr Bool (reads_only test) y) ≡ true)

  two_only : (c : Comparison) (a b : Expr) → IsOnly a → IsOnly b → LayerOnly (Expr-F.Compare a c b)
  two_only c a b ia ib = (and_from (is_total a) (is_total b) ia.0 ib.0, and_from (reads_only test a) (reads_only test b) ia.1 ib.1)

  three_only : (a b c : Expr) → IsOnly a → IsOnly b → IsOnly c → LayerOnly (Expr-F.Between a b c)
  three_only a b c ia ib ic = (
    and_from (is_total a && is_total b) (is_total c) (and_from (is_total a) (is_total b) ia.0 ib.0) ic.0,
    and_from (reads_only test a && reads_only test b) (reads_only test c) (and_from (reads_only test a) (reads_only test b) ia.1 ib.1) ic.1,
  )

  compared_only : (c : Comparison) (a b : Expr) (xs ys : List KeyBound) → OnlyIf xs (IsOnly a × IsOnly b) → OnlyIf ys (IsOnly b × IsOnly a) → OnlyIf (xs ++ ys) (LayerOnly (Expr-F.Compare a c b))
  compared_only c a b xs ys (inr p) q = inr (two_only c a b p.0 p.1)
  compared_only c a b xs ys (inl none) (inr q) = inr (two_only c a b q.1 q.0)
  compared_only c a b xs ys (inl none) (inl other) = inl (ap (λ (l : List KeyBound). l ++ ys) none ∙ other)

  layer_only : (place : ℕ) → test place ≡ true → (y : Expr-F Expr) → OnlyIf (bounds_at place y) (LayerOnly y)
  layer_only place passes (Expr-F.Compare a c b) =
      compared_only c a b (bound_at place (as_column a) (bound_of c) (as_literal b)) (bound_at place (as_column b) (option_map exchanged (bound_of c)) (as_literal a))
      (first_only place passes a b (as_column a) (bound_of c) (as_literal b) refl refl)
      (first_only place passes b a (as_column b) (option_map exchanged (bound_of c)) (as_literal a) refl refl)
  layer_only place passes (Expr-F.Between a low high) = of_three (between_only place passes a low high (as_column a) (as_literal low) (as_literal high) refl refl refl) where
    of_three : OnlyIf (bounds_between place (as_column a) (as_literal low) (as_literal high)) (IsOnly a × (IsOnly low × IsOnly high)) → OnlyIf (bounds_between place (as_column a) (as_literal low) (as_literal high)) (LayerOnly (Expr-F.Between a low high))
    of_three (inl none) = inl none
    of_three (inr p) = inr (three_only a low high p.0 p.1.0 p.1.1)
  layer_only place passes y = inl refl

  bounds_only : (place : ℕ) → test place ≡ true → (e : Expr) → OnlyIf (bounds place e) (IsOnly e)
  bounds_only place passes e = of_either (layer_only place passes (out-Expr e)) where
    of_either : OnlyIf (bounds_at place (out-Expr e)) (LayerOnly (out-Expr e)) → OnlyIf (bounds place e) (IsOnly e)
    of_either (inl none) = inl none
    of_either (inr is) = inr (of_layer e is)

-- ---- several conditions

-- the column's value is in each of the bounds
abbrev pub is_in_bounds : List KeyBound → Value → Bool
is_in_bounds bs v = list_all (λ (b : KeyBound). compares b.0 v b.1) bs

module _ (k : Kind) (row : List Value) (place low high : ℕ) (fits : Fits k (column_of row place)) (passes : is_in low high place ≡ true) where
  -- of one condition
  one_out : (e : Expr) (bs : List KeyBound) → AllByRecursion (RefusedOut k (column_of row place) (val row e)) bs → is_in_bounds (filter (λ (b : KeyBound). is_of_type k b.1) bs) (column_of row place) ≡ false → is_refused (val row e) ≡ true
  one_out e [] all out = cc
  one_out e (b ∷ bs) all out = of_type (is_of_type k b.1) refl out (one_out e bs all.1) where
    of_compared : (t : Bool) → compares b.0 (column_of row place) b.1 ≡ t → is_of_type k b.1 ≡ true → (t && is_in_bounds (filter (λ (b : KeyBound). is_of_type k b.1) bs) (column_of row place)) ≡ false
        → (is_in_bounds (filter (λ (b : KeyBound). is_of_type k b.1) bs) (column_of row place) ≡ false → is_refused (val row e) ≡ true) → is_refused (val row e) ≡ true
    of_compared true is typed out rest = rest out
    of_compared false is typed out rest = all.0 (fits_type k b.1 typed) is

    of_type : (t : Bool) → is_of_type k b.1 ≡ t → is_in_bounds (if t then b ∷ filter (λ (b : KeyBound). is_of_type k b.1) bs else filter (λ (b : KeyBound). is_of_type k b.1) bs) (column_of row place) ≡ false
        → (is_in_bounds (filter (λ (b : KeyBound). is_of_type k b.1) bs) (column_of row place) ≡ false → is_refused (val row e) ≡ true) → is_refused (val row e) ≡ true
    of_type true typed out rest = of_compared (compares b.0 (column_of row place) b.1) refl typed out rest
    of_type false typed out rest = rest out

  in_both : (xs ys : List KeyBound) → is_in_bounds (filter (λ (b : KeyBound). is_of_type k b.1) (xs ++ ys)) (column_of row place) ≡ (is_in_bounds (filter (λ (b : KeyBound). is_of_type k b.1) xs) (column_of row place) && is_in_bounds (filter (λ (b : KeyBound). is_of_type k b.1) ys) (column_of row place))
  in_both [] ys = refl
  in_both (b ∷ xs) ys = of_type (is_of_type k b.1) (in_both xs ys) where
    fs : List KeyBound → List KeyBound
    fs l = filter (λ (b : KeyBound). is_of_type k b.1) l

    of_type : (t : Bool) → is_in_bounds (filter (λ (b : KeyBound). is_of_type k b.1) (xs ++ ys)) (column_of row place) ≡ (is_in_bounds (filter (λ (b : KeyBound). is_of_type k b.1) xs) (column_of row place) && is_in_bounds (filter (λ (b : KeyBound). is_of_type k b.1) ys) (column_of row place))
        → is_in_bounds (if t then b ∷ filter (λ (b : KeyBound). is_of_type k b.1) (xs ++ ys) else filter (λ (b : KeyBound). is_of_type k b.1) (xs ++ ys)) (column_of row place)
        ≡ (is_in_bounds (if t then b ∷ filter (λ (b : KeyBound). is_of_type k b.1) xs else filter (λ (b : KeyBound). is_of_type k b.1) xs) (column_of row place) && is_in_bounds (filter (λ (b : KeyBound). is_of_type k b.1) ys) (column_of row place))
    of_type true same = ap (λ (t : Bool). compares b.0 (column_of row place) b.1 && t) same ∙ sym (and_assoc (compares b.0 (column_of row place) b.1) (is_in_bounds (filter (λ (b : KeyBound). is_of_type k b.1) xs) (column_of row place)) (is_in_bounds (filter (λ (b : KeyBound). is_of_type k b.1) ys) (column_of row place)))
    of_type false same = same

  -- THE LAW OF BOUNDS: where a row's column is out of a bound that conditions set to it, one of those on its columns is refused.
  pub left_out_of_bounds : (es : List Expr) → is_in_bounds (bounds_by k place es) (column_of row place) ≡ false → is_left_out (conjuncts_on low high es) row ≡ true
  left_out_of_bounds [] out = cc
  left_out_of_bounds (e ∷ es) out =
      of_first (is_in_bounds (filter (λ (b : KeyBound). is_of_type k b.1) (bounds place e)) (column_of row place)) refl (sym (in_both (bounds place e) (flat_map (bounds place) es)) ∙ out) (left_out_of_bounds es) where
        kept_rest : (t : Bool) → is_left_out (conjuncts_on low high es) row ≡ true → is_left_out (if t then e ∷ conjuncts_on low high es else conjuncts_on low high es) row ≡ true
        kept_rest true rest = ap (λ (b : Bool). is_refused (val row e) || b) rest ∙ or-true (is_refused (val row e))
        kept_rest false rest = rest

        is_only : (bs : List KeyBound) → bs ≡ bounds place e → is_in_bounds (filter (λ (b : KeyBound). is_of_type k b.1) bs) (column_of row place) ≡ false → ((bounds place e ≡ []) ⊎ ((is_total e ≡ true) × (reads_only (is_in low high) e ≡ true))) → (is_total e && reads_only (is_in low high) e) ≡ true
        is_only bs same out (inl none) = let empty : bs ≡ [] = same ∙ none in absurd (let q : true ≡ false = sym (ap (λ (l : List KeyBound). is_in_bounds (filter (λ (b : KeyBound). is_of_type k b.1) l) (column_of row place)) empty) ∙ out in cc)
        is_only bs same out (inr is) = ap (λ (b : Bool). b && reads_only (is_in low high) e) is.0 ∙ is.1

        of_first : (t : Bool) → is_in_bounds (filter (λ (b : KeyBound). is_of_type k b.1) (bounds place e)) (column_of row place) ≡ t
            → (is_in_bounds (filter (λ (b : KeyBound). is_of_type k b.1) (bounds place e)) (column_of row place) && is_in_bounds (filter (λ (b : KeyBound). is_of_type k b.1) (flat_map (bounds place) es)) (column_of row place)) ≡ false
            → (is_in_bounds (bounds_by k place es) (column_of row place) ≡ false → is_left_out (conjuncts_on low high es) row ≡ true)
            → is_left_out (conjuncts_on low high (e ∷ es)) row ≡ true
        of_first true is out rest = kept_rest (is_total e && reads_only (is_in low high) e) (rest (sym (ap (λ (b : Bool). b && is_in_bounds (bounds_by k place es) (column_of row place)) is) ∙ out))
        of_first false is out rest =
            let only : (is_total e && reads_only (is_in low high) e) ≡ true = is_only (bounds place e) refl is (bounds_only (is_in low high) place passes e) in
            let refused : is_refused (val row e) ≡ true = one_out e (bounds place e) (refused_out k row place fits e) is in
            ap (λ (t : Bool). is_left_out (if t then e ∷ conjuncts_on low high es else conjuncts_on low high es) row) only
            ∙ ap (λ (b : Bool). b || is_left_out (conjuncts_on low high es) row) refused
