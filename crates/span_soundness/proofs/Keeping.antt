-- An expression of a type has values of that type.
use Rattle.std.proofs.Common.{◌≡◌, ◌∙◌, sym, ap, refl, subst, ℕ, zero, suc, true, false, Bool, ◌&&◌, ◌||◌, if◌then◌else◌, List, [], ◌∷◌, map, Some, None}
use Rattle.std.specs.Prelude.{slice_get, ℤ, pos, negsuc, neg_ℤ, ◌+ℤ◌, ◌-ℤ◌, ◌*ℤ◌}
use Rattle.std.specs.Int.RustNames.{int_div}
use Rattle.std.specs.List.{fold, list_all}
use Rattle.span_value.specs.declared.value.Kind.{Kind}
use Rattle.span_value.specs.declared.value.Kind.TheVariants as kind
use Rattle.span_value.specs.declared.value.Value.{Value}
use Rattle.span_value.specs.declared.value.Value.TheVariants as value
use Rattle.span_value.specs.declared.truth.Truth.TheVariants.{False, True, Unknown}
use Rattle.span_value.specs.declared.truth.Outcome.{Outcome}
use Rattle.span_value.specs.declared.truth.Outcome.TheVariants.{Val, Fault}
use Rattle.span_value.specs.Orders.{value_order}
use Rattle.span_schema.specs.Fitting.{is_of_kind}
use Rattle.span_expr.specs.declared.condition.Condition.{Condition}
use Rattle.span_expr.specs.declared.condition.Condition.TheVariants.{Known, Faulted}
use Rattle.span_expr.specs.declared.expr.Comparison.{Comparison}
use Rattle.span_expr.specs.declared.expr.Comparison.TheVariants.{Equal, AtLeast, AtMost}
use Rattle.span_pattern.specs.declared.pattern.PatternPart.{PatternPart}
use Rattle.span_expr.specs.declared.expr.Operator.{Operator}
use Rattle.span_expr.specs.declared.expr.Operator.TheVariants.{Add, Subtract, Multiply, Divide, Modulo, Concatenate}
use Rattle.span_expr.specs.declared.expr.Link.{Link}
use Rattle.span_expr.specs.declared.expr.Arm.{Arm}
use Rattle.span_expr.specs.declared.expr.Expr.{Expr}
use Rattle.span_expr.specs.declared.expr.Expr.TheOpen.{Expr-F}
use Rattle.span_expr.specs.declared.expr.Expr.TheViews.{roll-Expr}
use Rattle.span_expr.specs.declared.expr.Expr.TheFolds.{ind-Expr, map-Expr, fold-roll-Expr}
use Rattle.span_expr.specs.Outcomes.{at_value, strict, is_null, null_test, condition_of, outcome_of, logical_not, if_true, first_non_null, both}
use Rattle.span_expr.specs.Operators.{number, is_int64, apply_operator, calculate, concatenation, append_text, append_bytes, calculate_ints, arithmetic_negation, compare_values, holds, length_of, has_prefix, column_of}
use Rattle.span_pattern.specs.Patterns.{like}
use Rattle.span_expr.specs.Meaning.{apply_link, case_value, match_value, at_operands, val, link_val, arm_val, between, in_list, and_also, or_else, or_equal, all_of, any_of}
use Rattle.span_soundness.specs.Types.{IsOutcomeOf, IsRowOf, are_same, is_text, is_operand, Typing, is_some, is_link_of, has_value, has_condition, is_compared_with, are_conditions, all_values_are, all_are, has_type, typing_at, is_of}
use Rattle.span_soundness.specs.Laws.{ExpressionsKeepTypes}
use Rattle.span_soundness.proofs.Sameness.{not_true, same_kind}
use Rattle.std.proofs.lemmas.Bool.{and_parts}

-- ---- outcomes

-- of the type that was asked for
of_same : (j k : Kind) (b : Bool) (o : Outcome) → (are_same j k && b) ≡ true → IsOutcomeOf j o → IsOutcomeOf k o
of_same j k b o is outcome = subst (λ (t : Kind). IsOutcomeOf t o) (same_kind j k (and_parts (are_same j k) b is).0) outcome

-- NULL is of each type
pub null_of : (k : Kind) → is_of_kind k value.Null ≡ true
null_of kind.Int = refl
null_of kind.Str = refl
null_of kind.Bytes = refl
null_of kind.Bool = refl

condition_kept : (c : Condition) → IsOutcomeOf kind.Bool (outcome_of c)
condition_kept (Known True) = refl
condition_kept (Known False) = refl
condition_kept (Known Unknown) = refl
condition_kept Faulted = tt {0}

pub number_kept : (z : ℤ) → IsOutcomeOf kind.Int (number z)
number_kept z = of_test (is_int64 z) where
  of_test : (b : Bool) → IsOutcomeOf kind.Int (if b then Val (value.Int z) else Fault)
  of_test true = refl
  of_test false = tt {0}

then_kept : (k : Kind) (o : Outcome) (next : Value → Outcome) → ((v : Value) → IsOutcomeOf k (next v)) → IsOutcomeOf k (at_value o next)
then_kept k (Val v) next follows = follows v
then_kept k Fault next follows = tt {0}

strict_kept : (k : Kind) (apply : Value → Value → Outcome) (o p : Outcome) → ((v w : Value) → IsOutcomeOf k (apply v w)) → IsOutcomeOf k (strict apply o p)
strict_kept k apply (Val v) (Val w) follows = follows v w
strict_kept k apply (Val v) Fault follows = tt {0}
strict_kept k apply Fault p follows = tt {0}

-- `x >= low AND x <= high`
abbrev between_condition : Outcome → Outcome → Outcome → Condition
between_condition x low high = both (condition_of (strict (compare_values AtLeast) x low)) (condition_of (strict (compare_values AtMost) x high))

-- ---- operators

opposite_kept : (v : Value) → IsOutcomeOf kind.Int (arithmetic_negation v)
opposite_kept (value.Int z) = number_kept (neg_ℤ z)
opposite_kept value.Null = refl
opposite_kept (value.Str s) = refl
opposite_kept (value.Bytes s) = refl
opposite_kept (value.Bool b) = refl

compared_kept : (c : Comparison) (v w : Value) → IsOutcomeOf kind.Bool (compare_values c v w)
compared_kept c v w = of_test (is_null v || is_null w) where
  of_test : (b : Bool) → IsOutcomeOf kind.Bool (if b then Val value.Null else Val (value.Bool (holds c (value_order v w))))
  of_test true = refl
  of_test false = refl

begun_kept : (v w : Value) → IsOutcomeOf kind.Bool (has_prefix v w)
begun_kept (value.Str a) (value.Str b) = refl
begun_kept (value.Bytes a) (value.Bytes b) = refl
begun_kept v w = refl

measured_kept : (v : Value) → IsOutcomeOf kind.Int (length_of v)
measured_kept (value.Str a) = refl
measured_kept (value.Bytes a) = refl
measured_kept v = refl

like_kept : (pattern : List PatternPart) (v : Value) → IsOutcomeOf kind.Bool (like pattern v)
like_kept pattern (value.Str a) = refl
like_kept pattern v = refl

denied_kept : (v : Value) → IsOutcomeOf kind.Bool (logical_not v)
denied_kept value.Null = refl
denied_kept (value.Bool true) = refl
denied_kept (value.Bool false) = refl
denied_kept (value.Int n) = refl
denied_kept (value.Str s) = refl
denied_kept (value.Bytes s) = refl

-- ---- chains

numbers_kept : (op : Operator) (a b : ℤ) → IsOutcomeOf kind.Int (calculate_ints op a b)
numbers_kept Add a b = number_kept (a +ℤ b)
numbers_kept Subtract a b = number_kept (a -ℤ b)
numbers_kept Multiply a b = number_kept (a *ℤ b)
numbers_kept Divide a (pos zero) = tt {0}
numbers_kept Divide a (pos (suc n)) = number_kept (int_div a (pos (suc n)))
numbers_kept Divide a (negsuc n) = number_kept (int_div a (negsuc n))
numbers_kept Modulo a (pos zero) = tt {0}
numbers_kept Modulo a (pos (suc n)) = refl
numbers_kept Modulo a (negsuc n) = refl
numbers_kept Concatenate a b = refl

calculated_kept : (op : Operator) (v w : Value) → IsOutcomeOf kind.Int (calculate op v w)
calculated_kept op (value.Int a) (value.Int b) = numbers_kept op a b
calculated_kept op v w = refl

texts_kept : (v : Value) (b : List ℕ) → IsOutcomeOf kind.Str (append_text v b)
texts_kept (value.Str a) b = refl
texts_kept v b = refl

bytes_kept : (v : Value) (b : List ℕ) → IsOutcomeOf kind.Bytes (append_bytes v b)
bytes_kept (value.Bytes a) b = refl
bytes_kept v b = refl

-- the second operand decides of which type the two are together
concatenated_kept : (k : Kind) (v w : Value) → is_text k ≡ true → is_of_kind k w ≡ true → IsOutcomeOf k (concatenation v w)
concatenated_kept k v value.Null text is = null_of k
concatenated_kept k v (value.Int n) text is = null_of k
concatenated_kept k v (value.Bool b) text is = null_of k
concatenated_kept kind.Str v (value.Str b) text is = texts_kept v b
concatenated_kept kind.Str v (value.Bytes b) text is = not_true is
concatenated_kept kind.Bytes v (value.Bytes b) text is = bytes_kept v b
concatenated_kept kind.Bytes v (value.Str b) text is = not_true is
concatenated_kept kind.Int v (value.Str b) text is = not_true text
concatenated_kept kind.Int v (value.Bytes b) text is = not_true text
concatenated_kept kind.Bool v (value.Str b) text is = not_true text
concatenated_kept kind.Bool v (value.Bytes b) text is = not_true text

number_applied : (op : Operator) (k : Kind) (v w : Value) → are_same kind.Int k ≡ true → IsOutcomeOf kind.Int (calculate op v w) → IsOutcomeOf k (calculate op v w)
number_applied op k v w is kept = subst (λ (t : Kind). IsOutcomeOf t (calculate op v w)) (same_kind kind.Int k is) kept

applied_kept : (op : Operator) (k : Kind) (v w : Value) → is_operand op k ≡ true → is_of_kind k w ≡ true → IsOutcomeOf k (apply_operator op v w)
applied_kept Concatenate k v w operand is = concatenated_kept k v w operand is
applied_kept Add k v w operand is = number_applied Add k v w operand (calculated_kept Add v w)
applied_kept Subtract k v w operand is = number_applied Subtract k v w operand (calculated_kept Subtract v w)
applied_kept Multiply k v w operand is = number_applied Multiply k v w operand (calculated_kept Multiply v w)
applied_kept Divide k v w operand is = number_applied Divide k v w operand (calculated_kept Divide v w)
applied_kept Modulo k v w operand is = number_applied Modulo k v w operand (calculated_kept Modulo v w)

-- each operand of a chain is of its type
abbrev AllLinks : Kind → List (Link Outcome) → Type 0
AllLinks k [] = Unit {0}
AllLinks k (link ∷ links) = (is_operand link.operator k ≡ true) × IsOutcomeOf k link.operand × AllLinks k links

linked_kept : (k : Kind) (op : Operator) (o p : Outcome) → is_operand op k ≡ true → IsOutcomeOf k p → IsOutcomeOf k (strict (apply_operator op) o p)
linked_kept k op (Val v) (Val w) operand is = applied_kept op k v w operand is
linked_kept k op (Val v) Fault operand is = tt {0}
linked_kept k op Fault p operand is = tt {0}

chained_kept : (k : Kind) (o : Outcome) (links : List (Link Outcome)) → IsOutcomeOf k o → AllLinks k links → IsOutcomeOf k (fold apply_link o links)
chained_kept k o [] is all = is
chained_kept k o (link ∷ links) is all = chained_kept k (apply_link o link) links (linked_kept k link.operator o link.operand all.0 all.1) all.2

-- ---- choices

abbrev AllAre : Kind → List Outcome → Type 0
AllAre k [] = Unit {0}
AllAre k (o ∷ os) = IsOutcomeOf k o × AllAre k os

first_kept : (k : Kind) (os : List Outcome) → AllAre k os → IsOutcomeOf k (first_non_null os)
first_kept k [] all = null_of k
first_kept k (Val value.Null ∷ os) all = first_kept k os all.1
first_kept k (Val (value.Int n) ∷ os) all = all.0
first_kept k (Val (value.Str s) ∷ os) all = all.0
first_kept k (Val (value.Bytes s) ∷ os) all = all.0
first_kept k (Val (value.Bool b) ∷ os) all = all.0
first_kept k (Fault ∷ os) all = tt {0}

if_kept : (k : Kind) (c a b : Outcome) → IsOutcomeOf k a → IsOutcomeOf k b → IsOutcomeOf k (if_true c a b)
if_kept k Fault a b a_is b_is = tt {0}
if_kept k (Val (value.Bool true)) a b a_is b_is = a_is
if_kept k (Val (value.Bool false)) a b a_is b_is = b_is
if_kept k (Val value.Null) a b a_is b_is = b_is
if_kept k (Val (value.Int n)) a b a_is b_is = b_is
if_kept k (Val (value.Str s)) a b a_is b_is = b_is
if_kept k (Val (value.Bytes s)) a b a_is b_is = b_is

abbrev AllValues : Kind → List (Arm Outcome) → Type 0
AllValues k [] = Unit {0}
AllValues k (arm ∷ arms) = IsOutcomeOf k arm.value × AllValues k arms

chosen_kept : (k : Kind) (arms : List (Arm Outcome)) (o : Outcome) → AllValues k arms → IsOutcomeOf k o → IsOutcomeOf k (case_value arms o)
chosen_kept k [] o all is = is
chosen_kept k (arm ∷ arms) o all is = if_kept k arm.condition arm.value (case_value arms o) all.0 (chosen_kept k arms o all.1 is)

matched_kept : (k : Kind) (x : Outcome) (arms : List (Arm Outcome)) (o : Outcome) → AllValues k arms → IsOutcomeOf k o → IsOutcomeOf k (match_value x arms o)
matched_kept k x [] o all is = is
matched_kept k x (arm ∷ arms) o all is = if_kept k (strict (compare_values Equal) x arm.condition) arm.value (match_value x arms o) all.0 (matched_kept k x arms o all.1 is)

-- ---- columns

pub column_kept : (types : List Kind) (row : List Value) (place : ℕ) (k : Kind) → IsRowOf types row → is_some (slice_get types place) k ≡ true → is_of_kind k (column_of row place) ≡ true
column_kept [] [] place k row_is is = not_true is
column_kept [] (v ∷ vs) place k row_is is = absurd row_is
column_kept (j ∷ js) [] place k row_is is = absurd row_is
column_kept (j ∷ js) (v ∷ vs) zero k row_is is = subst (λ (t : Kind). is_of_kind t v ≡ true) (same_kind j k is) row_is.0
column_kept (j ∷ js) (v ∷ vs) (suc n) k row_is is = column_kept js vs n k row_is.1 is

-- ---- expressions

module _ (types : List Kind) (row : List Value) (row_is : IsRowOf types row) where
  abbrev KeepsTypes : Expr → Type 0
  KeepsTypes e = (k : Kind) → is_of types e k ≡ true → IsOutcomeOf k (val row e)

  -- an operand, with what is known of it
  abbrev Witness : Type 0
  Witness = (e : Expr) × KeepsTypes e

  abbrev expr_of : Witness → Expr
  expr_of e = e.0

  abbrev of_link : Link Witness → Link Expr
  of_link link = record { operator = link.operator; operand = link.operand.0 }

  abbrev of_arm : Arm Witness → Arm Expr
  of_arm arm = record { condition = arm.condition.0; value = arm.value.0 }

  abbrev link_type : Link Expr → Link Typing
  link_type link = record { operator = link.operator; operand = is_of types link.operand }

  abbrev arm_type : Arm Expr → Arm Typing
  arm_type arm = record { condition = is_of types arm.condition; value = is_of types arm.value }

  operands_kept : (k : Kind) (es : List Witness) → all_are (map (is_of types) (map expr_of es)) k ≡ true → AllAre k (map (val row) (map expr_of es))
  operands_kept k [] is = tt {0}
  operands_kept k (e ∷ es) is =
      let parts : (is_of types e.0 k ≡ true) × (all_are (map (is_of types) (map expr_of es)) k ≡ true) = and_parts (is_of types e.0 k) (all_are (map (is_of types) (map expr_of es)) k) is in
      (e.1 k parts.0, operands_kept k es parts.1)

  links_kept : (k : Kind) (links : List (Link Witness)) → list_all (is_link_of k) (map link_type (map of_link links)) ≡ true → AllLinks k (map (link_val row) (map of_link links))
  links_kept k [] is = tt {0}
  links_kept k (link ∷ links) is =
      let parts : (is_link_of k (link_type (of_link link)) ≡ true) × (list_all (is_link_of k) (map link_type (map of_link links)) ≡ true) = and_parts (is_link_of k (link_type (of_link link))) (list_all (is_link_of k) (map link_type (map of_link links))) is in
      let here : (is_operand link.operator k ≡ true) × (is_of types link.operand.0 k ≡ true) = and_parts (is_operand link.operator k) (is_of types link.operand.0 k) parts.0 in
      (here.0, link.operand.1 k here.1, links_kept k links parts.1)

  arms_kept : (k : Kind) (arms : List (Arm Witness)) → list_all (has_value k) (map arm_type (map of_arm arms)) ≡ true → AllValues k (map (arm_val row) (map of_arm arms))
  arms_kept k [] is = tt {0}
  arms_kept k (arm ∷ arms) is =
      let parts : (is_of types arm.value.0 k ≡ true) × (list_all (has_value k) (map arm_type (map of_arm arms)) ≡ true) = and_parts (is_of types arm.value.0 k) (list_all (has_value k) (map arm_type (map of_arm arms))) is in
      (arm.value.1 k parts.0, arms_kept k arms parts.1)

  layer_kept : (y : Expr-F Witness) (k : Kind) → typing_at types (map-Expr Expr Typing (is_of types) (map-Expr Witness Expr expr_of y)) k ≡ true → IsOutcomeOf k (at_operands row (map-Expr Expr Outcome (val row) (map-Expr Witness Expr expr_of y)))
  layer_kept (Expr-F.Literal v) k t = t
  layer_kept (Expr-F.Column place) k t = column_kept types row place k row_is t
  layer_kept (Expr-F.Negative a) k t = of_same kind.Int k (is_of types a.0 kind.Int) (at_value (val row a.0) arithmetic_negation) t (then_kept kind.Int (val row a.0) arithmetic_negation opposite_kept)
  layer_kept (Expr-F.Chain first links) k t =
      let parts : (is_of types first.0 k ≡ true) × (list_all (is_link_of k) (map link_type (map of_link links)) ≡ true) = and_parts (is_of types first.0 k) (list_all (is_link_of k) (map link_type (map of_link links))) t in
      chained_kept k (val row first.0) (map (link_val row) (map of_link links)) (first.1 k parts.0) (links_kept k links parts.1)
  layer_kept (Expr-F.Compare a c b) k t =
      of_same kind.Bool k (has_type (λ j. is_of types a.0 j && is_of types b.0 j)) (strict (compare_values c) (val row a.0) (val row b.0)) t (strict_kept kind.Bool (compare_values c) (val row a.0) (val row b.0) (compared_kept c))
  layer_kept (Expr-F.Between a low high) k t =
      of_same kind.Bool k (has_type (λ j. is_of types a.0 j && is_of types low.0 j && is_of types high.0 j)) (between (val row a.0) (val row low.0) (val row high.0)) t (condition_kept (between_condition (val row a.0) (val row low.0) (val row high.0)))
  layer_kept (Expr-F.In a members) k t =
      of_same kind.Bool k (has_type (λ j. is_of types a.0 j && all_are (map (is_of types) (map expr_of members)) j)) (in_list (val row a.0) (map (val row) (map expr_of members))) t (condition_kept (fold (or_equal (val row a.0)) (Known False) (map (val row) (map expr_of members))))
  layer_kept (Expr-F.Like a pattern) k t = of_same kind.Bool k (is_of types a.0 kind.Str) (at_value (val row a.0) (like pattern)) t (then_kept kind.Bool (val row a.0) (like pattern) (like_kept pattern))
  layer_kept (Expr-F.StartsWith a front) k t =
      of_same kind.Bool k (has_type (λ j. is_text j && is_of types a.0 j && is_of types front.0 j)) (strict has_prefix (val row a.0) (val row front.0)) t (strict_kept kind.Bool has_prefix (val row a.0) (val row front.0) begun_kept)
  layer_kept (Expr-F.Length a) k t = of_same kind.Int k (has_type (λ j. is_text j && is_of types a.0 j)) (at_value (val row a.0) length_of) t (then_kept kind.Int (val row a.0) length_of measured_kept)
  layer_kept (Expr-F.IsNull a) k t = of_same kind.Bool k (has_type (is_of types a.0)) (at_value (val row a.0) null_test) t (then_kept kind.Bool (val row a.0) null_test (λ v. refl))
  layer_kept (Expr-F.Not a) k t = of_same kind.Bool k (is_of types a.0 kind.Bool) (at_value (val row a.0) logical_not) t (then_kept kind.Bool (val row a.0) logical_not denied_kept)
  layer_kept (Expr-F.And first more) k t =
      of_same kind.Bool k (are_conditions (is_of types first.0) (map (is_of types) (map expr_of more))) (all_of (val row first.0) (map (val row) (map expr_of more))) t (condition_kept (fold and_also (condition_of (val row first.0)) (map (val row) (map expr_of more))))
  layer_kept (Expr-F.Or first more) k t =
      of_same kind.Bool k (are_conditions (is_of types first.0) (map (is_of types) (map expr_of more))) (any_of (val row first.0) (map (val row) (map expr_of more))) t (condition_kept (fold or_else (condition_of (val row first.0)) (map (val row) (map expr_of more))))
  layer_kept (Expr-F.Case arms None) k t =
      let parts : (list_all has_condition (map arm_type (map of_arm arms)) ≡ true) × (all_values_are (map arm_type (map of_arm arms)) None k ≡ true) = and_parts (list_all has_condition (map arm_type (map of_arm arms))) (all_values_are (map arm_type (map of_arm arms)) None k) t in
      let values : (list_all (has_value k) (map arm_type (map of_arm arms)) ≡ true) × (true ≡ true) = and_parts (list_all (has_value k) (map arm_type (map of_arm arms))) true parts.1 in
      chosen_kept k (map (arm_val row) (map of_arm arms)) (Val value.Null) (arms_kept k arms values.0) (null_of k)
  layer_kept (Expr-F.Case arms (Some other)) k t =
      let parts : (list_all has_condition (map arm_type (map of_arm arms)) ≡ true) × (all_values_are (map arm_type (map of_arm arms)) (Some (is_of types other.0)) k ≡ true) = and_parts (list_all has_condition (map arm_type (map of_arm arms))) (all_values_are (map arm_type (map of_arm arms)) (Some (is_of types other.0)) k) t in
      let values : (list_all (has_value k) (map arm_type (map of_arm arms)) ≡ true) × (is_of types other.0 k ≡ true) = and_parts (list_all (has_value k) (map arm_type (map of_arm arms))) (is_of types other.0 k) parts.1 in
      chosen_kept k (map (arm_val row) (map of_arm arms)) (val row other.0) (arms_kept k arms values.0) (other.1 k values.1)
  layer_kept (Expr-F.Match a arms None) k t =
      let parts : ((has_type (is_of types a.0) && list_all (is_compared_with (is_of types a.0)) (map arm_type (map of_arm arms))) ≡ true) × (all_values_are (map arm_type (map of_arm arms)) None k ≡ true) = and_parts ((has_type (is_of types a.0) && list_all (is_compared_with (is_of types a.0)) (map arm_type (map of_arm arms)))) (all_values_are (map arm_type (map of_arm arms)) None k) t in
      let values : (list_all (has_value k) (map arm_type (map of_arm arms)) ≡ true) × (true ≡ true) = and_parts (list_all (has_value k) (map arm_type (map of_arm arms))) true parts.1 in
      matched_kept k (val row a.0) (map (arm_val row) (map of_arm arms)) (Val value.Null) (arms_kept k arms values.0) (null_of k)
  layer_kept (Expr-F.Match a arms (Some other)) k t =
      let parts : ((has_type (is_of types a.0) && list_all (is_compared_with (is_of types a.0)) (map arm_type (map of_arm arms))) ≡ true) × (all_values_are (map arm_type (map of_arm arms)) (Some (is_of types other.0)) k ≡ true) = and_parts ((has_type (is_of types a.0) && list_all (is_compared_with (is_of types a.0)) (map arm_type (map of_arm arms)))) (all_values_are (map arm_type (map of_arm arms)) (Some (is_of types other.0)) k) t in
      let values : (list_all (has_value k) (map arm_type (map of_arm arms)) ≡ true) × (is_of types other.0 k ≡ true) = and_parts (list_all (has_value k) (map arm_type (map of_arm arms))) (is_of types other.0 k) parts.1 in
      matched_kept k (val row a.0) (map (arm_val row) (map of_arm arms)) (val row other.0) (arms_kept k arms values.0) (other.1 k values.1)
  layer_kept (Expr-F.Coalesce operands) k t = first_kept k (map (val row) (map expr_of operands)) (operands_kept k operands t)

  pub kept : (e : Expr) → KeepsTypes e
  kept = ind-Expr KeepsTypes (λ x y is. subst (λ (z : Expr-F Expr). KeepsTypes (roll-Expr z)) is (λ k t.
      subst (IsOutcomeOf k) (sym (fold-roll-Expr Outcome (at_operands row) (map-Expr Witness Expr expr_of y)))
      (layer_kept y k (sym (ap (λ (f : Typing). f k) (fold-roll-Expr Typing (typing_at types) (map-Expr Witness Expr expr_of y))) ∙ t))))

pub expressions_keep_types : ExpressionsKeepTypes
expressions_keep_types types row e k row_is is = kept types row row_is e k is
