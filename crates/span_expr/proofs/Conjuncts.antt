-- What holds of a condition by its conjuncts.
use Rattle.std.proofs.Common.{◌≡◌, ◌∙◌, sym, ap, refl, subst, Bool, true, false, ◌&&◌, ◌||◌, List, [], ◌∷◌, ◌++◌, map, Some, None}
use Rattle.std.specs.Prelude.{flat_map}
use Rattle.std.specs.List.{fold, list_all, list_any}
use Rattle.std.proofs.lemmas.List.Folds.{flat_map-map, list_all-append, list_any-append, list_all-map}
use Rattle.std.proofs.Math.Bool.{and-true, or-false, or_assoc}
use Rattle.span_value.specs.declared.value.Value.{Value}
use Rattle.span_value.specs.declared.value.Value.TheVariants as value
use Rattle.span_value.specs.declared.truth.Truth.TheVariants.{False, True, Unknown}
use Rattle.span_value.specs.declared.truth.Outcome.{Outcome}
use Rattle.span_value.specs.declared.truth.Outcome.TheVariants.{Val, Fault}
use Rattle.span_expr.specs.declared.condition.Condition.{Condition}
use Rattle.span_expr.specs.declared.condition.Condition.TheVariants.{Known, Faulted}
use Rattle.span_expr.specs.declared.expr.Expr.{Expr}
use Rattle.span_expr.specs.declared.expr.Expr.TheOpen.{Expr-F}
use Rattle.span_expr.specs.declared.expr.Expr.TheVariants.{And, rolls-And}
use Rattle.span_expr.specs.declared.expr.Expr.TheViews.{roll-Expr, out-Expr, roll-out-Expr}
use Rattle.span_expr.specs.declared.expr.Expr.TheFolds.{ind-Expr, map-Expr, fold-roll-Expr}
use Rattle.span_expr.specs.Outcomes.{condition_of, outcome_of, both}
use Rattle.span_expr.specs.Meaning.{and_also, at_operands, val, total_at, is_total}
use Rattle.span_expr.specs.Conjuncts.{Split, whole, operands_at, split, conjuncts, is_refused, all_true}
use Rattle.span_expr.specs.Places.{reads_at, reads_only}
use Rattle.span_expr.proofs.Folds.{map-map-Expr, map-id-Expr, map-same, fold-fusion, fold-roll}

-- ---- the conjuncts of an AND, and of any other expression

split-first : (e : Expr) → (split e).0 ≡ e
split-first e = fold-fusion Split Expr (λ (s : Split). s.0) (λ y. (whole y, operands_at y)) roll-Expr (λ y. refl) e ∙ fold-roll e

whole-split : (y : Expr-F Expr) → whole (map-Expr Expr Split split y) ≡ roll-Expr y
whole-split y =
    ap roll-Expr (map-map-Expr Expr Split Expr split (λ (s : Split). s.0) y ∙ map-same Expr Expr (λ (e : Expr). (split e).0) (λ (e : Expr). e) split-first y ∙ map-id-Expr Expr y)

abbrev pub is_and : {A : Type 0} → Expr-F A → Bool
is_and (Expr-F.And first more) = true
is_and y = false

is_and-map : (A B : Type 0) (f : A → B) (y : Expr-F A) → is_and (map-Expr A B f y) ≡ is_and y
is_and-map A B f (Expr-F.And first more) = refl
is_and-map A B f y = refl

alone : (y : Expr-F Split) → is_and y ≡ false → operands_at y ≡ whole y ∷ []
alone (Expr-F.And first more) is = absurd (let q : true ≡ false = is in cc)
alone y is = refl

pub conjuncts-And : (first : Expr) (more : List Expr) → conjuncts (roll-Expr (Expr-F.And first more)) ≡ conjuncts first ++ flat_map conjuncts more
conjuncts-And first more =
    ap (λ (s : Split). s.1) (fold-roll-Expr Split (λ y. (whole y, operands_at y)) (Expr-F.And first more))
    ∙ ap (λ (es : List Expr). conjuncts first ++ es) (flat_map-map (λ (s : Split). s.1) split more)

pub conjuncts-other : (y : Expr-F Expr) → is_and y ≡ false → conjuncts (roll-Expr y) ≡ roll-Expr y ∷ []
conjuncts-other y is =
    ap (λ (s : Split). s.1) (fold-roll-Expr Split (λ y. (whole y, operands_at y)) y)
    ∙ alone (map-Expr Expr Split split y) (is_and-map Expr Split split y ∙ is)
    ∙ ap (λ (e : Expr). e ∷ []) (whole-split y)

-- ---- tests that an AND passes where each operand does, or where one does

-- a test that an AND passes where each of its operands does
abbrev pub IsOfEach : (Expr → Bool) → Type 0
IsOfEach test = (first : Expr) (more : List Expr) → test (roll-Expr (Expr-F.And first more)) ≡ (test first && list_all test more)

-- a test that an AND passes where one of its operands does
abbrev pub IsOfOne : (Expr → Bool) → Type 0
IsOfOne test = (first : Expr) (more : List Expr) → test (roll-Expr (Expr-F.And first more)) ≡ (test first || list_any test more)

module _ (test : Expr → Bool) (each : IsOfEach test) where
  abbrev OfEach : Expr → Type 0
  OfEach e = test e ≡ list_all test (conjuncts e)

  operands_each : (es : List ((e : Expr) × OfEach e)) → list_all test (map (λ (e : (e : Expr) × OfEach e). e.0) es) ≡ list_all test (flat_map conjuncts (map (λ (e : (e : Expr) × OfEach e). e.0) es))
  operands_each [] = refl
  operands_each (e ∷ es) =
      ap (λ (b : Bool). b && list_all test (map (λ (e : (e : Expr) × OfEach e). e.0) es)) e.1
      ∙ ap (λ (b : Bool). list_all test (conjuncts e.0) && b) (operands_each es)
      ∙ sym (list_all-append test (conjuncts e.0) (flat_map conjuncts (map (λ (e : (e : Expr) × OfEach e). e.0) es)))

  layer_each : (y : Expr-F ((e : Expr) × OfEach e)) → OfEach (roll-Expr (map-Expr ((e : Expr) × OfEach e) Expr (λ e. e.0) y))
  layer_each (Expr-F.And first more) =
      let others : List Expr = map (λ (e : (e : Expr) × OfEach e). e.0) more in
      each first.0 others
      ∙ ap (λ (b : Bool). b && list_all test others) first.1
      ∙ ap (λ (b : Bool). list_all test (conjuncts first.0) && b) (operands_each more)
      ∙ sym (ap (list_all test) (conjuncts-And first.0 others) ∙ list_all-append test (conjuncts first.0) (flat_map conjuncts others))
  layer_each y =
      let e : Expr-F Expr = map-Expr ((e : Expr) × OfEach e) Expr (λ e. e.0) y in
      sym (and-true (test (roll-Expr e))) ∙ sym (ap (list_all test) (conjuncts-other e refl))

  pub test-conjuncts_each : (e : Expr) → test e ≡ list_all test (conjuncts e)
  test-conjuncts_each = ind-Expr OfEach (λ x y is. subst (λ (z : Expr-F Expr). OfEach (roll-Expr z)) is (layer_each y))

  pub test-all_true_each : (es : List Expr) (e : Expr) → all_true es ≡ Some e → test e ≡ list_all test es
  test-all_true_each [] e is = absurd (let q : None ≡ Some e = is in cc)
  test-all_true_each (a ∷ []) e is = let same : a ≡ e = cc in ap test (sym same) ∙ sym (and-true (test a))
  test-all_true_each (a ∷ b ∷ more) e is = let same : roll-Expr (Expr-F.And a (b ∷ more)) ≡ e = cc in ap test (sym same) ∙ each a (b ∷ more)

module _ (test : Expr → Bool) (one : IsOfOne test) where
  abbrev OfOne : Expr → Type 0
  OfOne e = test e ≡ list_any test (conjuncts e)

  operands_one : (es : List ((e : Expr) × OfOne e)) → list_any test (map (λ (e : (e : Expr) × OfOne e). e.0) es) ≡ list_any test (flat_map conjuncts (map (λ (e : (e : Expr) × OfOne e). e.0) es))
  operands_one [] = refl
  operands_one (e ∷ es) =
      ap (λ (b : Bool). b || list_any test (map (λ (e : (e : Expr) × OfOne e). e.0) es)) e.1
      ∙ ap (λ (b : Bool). list_any test (conjuncts e.0) || b) (operands_one es)
      ∙ sym (list_any-append test (conjuncts e.0) (flat_map conjuncts (map (λ (e : (e : Expr) × OfOne e). e.0) es)))

  layer_one : (y : Expr-F ((e : Expr) × OfOne e)) → OfOne (roll-Expr (map-Expr ((e : Expr) × OfOne e) Expr (λ e. e.0) y))
  layer_one (Expr-F.And first more) =
      let others : List Expr = map (λ (e : (e : Expr) × OfOne e). e.0) more in
      one first.0 others
      ∙ ap (λ (b : Bool). b || list_any test others) first.1
      ∙ ap (λ (b : Bool). list_any test (conjuncts first.0) || b) (operands_one more)
      ∙ sym (ap (list_any test) (conjuncts-And first.0 others) ∙ list_any-append test (conjuncts first.0) (flat_map conjuncts others))
  layer_one y =
      let e : Expr-F Expr = map-Expr ((e : Expr) × OfOne e) Expr (λ e. e.0) y in
      sym (or-false (test (roll-Expr e))) ∙ sym (ap (list_any test) (conjuncts-other e refl))

  pub test-conjuncts_one : (e : Expr) → test e ≡ list_any test (conjuncts e)
  test-conjuncts_one = ind-Expr OfOne (λ x y is. subst (λ (z : Expr-F Expr). OfOne (roll-Expr z)) is (layer_one y))

  pub test-all_true_one : (es : List Expr) (e : Expr) → all_true es ≡ Some e → test e ≡ list_any test es
  test-all_true_one [] e is = absurd (let q : None ≡ Some e = is in cc)
  test-all_true_one (a ∷ []) e is = let same : a ≡ e = cc in ap test (sym same) ∙ sym (or-false (test a))
  test-all_true_one (a ∷ b ∷ more) e is = let same : roll-Expr (Expr-F.And a (b ∷ more)) ≡ e = cc in ap test (sym same) ∙ one a (b ∷ more)

-- ---- total, and what is read

total_each : IsOfEach is_total
total_each first more = fold-roll-Expr Bool total_at (Expr-F.And first more) ∙ ap (λ (b : Bool). is_total first && b) (list_all-map (λ (b : Bool). b) is_total more)

pub is_total-all_true : (es : List Expr) (e : Expr) → all_true es ≡ Some e → is_total e ≡ list_all is_total es
is_total-all_true = test-all_true_each is_total total_each

reads_each : (passes : _) → IsOfEach (reads_only passes)
reads_each passes first more = fold-roll-Expr Bool (reads_at passes) (Expr-F.And first more) ∙ ap (λ (b : Bool). reads_only passes first && b) (list_all-map (λ (b : Bool). b) (reads_only passes) more)

pub reads_only-conjuncts : (passes : _) (e : Expr) → reads_only passes e ≡ list_all (reads_only passes) (conjuncts e)
reads_only-conjuncts passes = test-conjuncts_each (reads_only passes) (reads_each passes)

pub reads_only-all_true : (passes : _) (es : List Expr) (e : Expr) → all_true es ≡ Some e → reads_only passes e ≡ list_all (reads_only passes) es
reads_only-all_true passes = test-all_true_each (reads_only passes) (reads_each passes)

-- ---- refusing a row

-- FALSE or NULL
abbrev pub refuses : Condition → Bool
refuses (Known True) = false
refuses (Known False) = true
refuses (Known Unknown) = true
refuses Faulted = false

pub refuses-both : (c d : Condition) → refuses (both c d) ≡ (refuses c || refuses d)
refuses-both (Known True) (Known True) = refl
refuses-both (Known True) (Known False) = refl
refuses-both (Known True) (Known Unknown) = refl
refuses-both (Known True) Faulted = refl
refuses-both (Known False) (Known True) = refl
refuses-both (Known False) (Known False) = refl
refuses-both (Known False) (Known Unknown) = refl
refuses-both (Known False) Faulted = refl
refuses-both (Known Unknown) (Known True) = refl
refuses-both (Known Unknown) (Known False) = refl
refuses-both (Known Unknown) (Known Unknown) = refl
refuses-both (Known Unknown) Faulted = refl
refuses-both Faulted (Known True) = refl
refuses-both Faulted (Known False) = refl
refuses-both Faulted (Known Unknown) = refl
refuses-both Faulted Faulted = refl

pub refuses-condition_of : (o : Outcome) → refuses (condition_of o) ≡ is_refused o
refuses-condition_of (Val (value.Bool true)) = refl
refuses-condition_of (Val (value.Bool false)) = refl
refuses-condition_of (Val value.Null) = refl
refuses-condition_of (Val (value.Int n)) = refl
refuses-condition_of (Val (value.Str s)) = refl
refuses-condition_of (Val (value.Bytes s)) = refl
refuses-condition_of Fault = refl

pub is_refused-outcome_of : (c : Condition) → is_refused (outcome_of c) ≡ refuses c
is_refused-outcome_of (Known True) = refl
is_refused-outcome_of (Known False) = refl
is_refused-outcome_of (Known Unknown) = refl
is_refused-outcome_of Faulted = refl

refuses-fold : (row : List Value) (c : Condition) (es : List Expr) → refuses (fold and_also c (map (val row) es)) ≡ (refuses c || list_any (λ e. is_refused (val row e)) es)
refuses-fold row c [] = sym (or-false (refuses c))
refuses-fold row c (e ∷ es) =
    let rest : Bool = list_any (λ e. is_refused (val row e)) es in
    refuses-fold row (and_also c (val row e)) es
    ∙ ap (λ (b : Bool). b || rest) (refuses-both c (condition_of (val row e)) ∙ ap (λ (b : Bool). refuses c || b) (refuses-condition_of (val row e)))
    ∙ or_assoc (refuses c) (is_refused (val row e)) rest

refused_one : (row : List Value) → IsOfOne (λ e. is_refused (val row e))
refused_one row first more =
    ap is_refused (fold-roll-Expr Outcome (at_operands row) (Expr-F.And first more))
    ∙ is_refused-outcome_of (fold and_also (condition_of (val row first)) (map (val row) more))
    ∙ refuses-fold row (condition_of (val row first)) more
    ∙ ap (λ (b : Bool). b || list_any (λ e. is_refused (val row e)) more) (refuses-condition_of (val row first))

-- A row is refused by a condition where a conjunct refuses it, also where another conjunct faults there.
pub is_refused-conjuncts : (row : List Value) (e : Expr) → is_refused (val row e) ≡ list_any (λ c. is_refused (val row c)) (conjuncts e)
is_refused-conjuncts row = test-conjuncts_one (λ e. is_refused (val row e)) (refused_one row)

pub is_refused-all_true : (row : List Value) (es : List Expr) (e : Expr) → all_true es ≡ Some e → is_refused (val row e) ≡ list_any (λ c. is_refused (val row c)) es
is_refused-all_true row = test-all_true_one (λ e. is_refused (val row e)) (refused_one row)

-- ---- as they are collected

conjuncts-layer : (y : Expr-F Expr) → ((first : Expr) (more : List Expr) → roll-Expr y ≡ And first more → ⊥) → conjuncts (roll-Expr y) ≡ roll-Expr y ∷ []
conjuncts-layer (Expr-F.And first more) is_no_and = absurd (is_no_and first more (rolls-And first more))
conjuncts-layer y is_no_and = conjuncts-other y refl

pub conjuncts-alone : (e : Expr) → ((first : Expr) (more : List Expr) → e ≡ And first more → ⊥) → conjuncts e ≡ e ∷ []
conjuncts-alone e = let P : Expr → Type 0 = λ x. ((first : Expr) (more : List Expr) → x ≡ And first more → ⊥) → conjuncts x ≡ x ∷ [] in subst P (roll-out-Expr e) (conjuncts-layer (out-Expr e))

pub conjuncts_of_and : (e first taken : Expr) (more read : List Expr) → e ≡ And first more → taken ≡ first → read ≡ more → conjuncts taken ++ flat_map conjuncts read ≡ conjuncts e
conjuncts_of_and e first taken more read is at_first at_more =
    ap (λ (x : Expr). conjuncts x ++ flat_map conjuncts read) at_first
    ∙ ap (λ (xs : List Expr). conjuncts first ++ flat_map conjuncts xs) at_more
    ∙ sym (ap conjuncts (is ∙ sym (rolls-And first more)) ∙ conjuncts-And first more)
