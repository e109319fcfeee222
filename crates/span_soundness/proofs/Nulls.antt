-- On operands of its types an operator answers NULL only where one of them is NULL.
use Rattle.std.proofs.Common.{◌≡◌, refl, ℕ, zero, suc, true, false, Bool, ◌||◌, if◌then◌else◌, List}
use Rattle.std.specs.Prelude.{ℤ, pos, negsuc, neg_ℤ, ◌+ℤ◌, ◌-ℤ◌, ◌*ℤ◌}
use Rattle.std.specs.Int.RustNames.{int_div}
use Rattle.span_value.specs.declared.value.Kind.{Kind}
use Rattle.span_value.specs.declared.value.Kind.TheVariants as kind
use Rattle.span_value.specs.declared.value.Value.{Value}
use Rattle.span_value.specs.declared.value.Value.TheVariants as value
use Rattle.span_value.specs.declared.truth.Outcome.{Outcome}
use Rattle.span_value.specs.declared.truth.Outcome.TheVariants.{Val, Fault}
use Rattle.span_value.specs.Orders.{value_order}
use Rattle.span_schema.specs.Fitting.{is_of_kind}
use Rattle.span_expr.specs.declared.expr.Comparison.{Comparison}
use Rattle.span_pattern.specs.declared.pattern.PatternPart.{PatternPart}
use Rattle.span_expr.specs.declared.expr.Operator.{Operator}
use Rattle.span_expr.specs.declared.expr.Operator.TheVariants.{Add, Subtract, Multiply, Divide, Modulo, Concatenate}
use Rattle.span_expr.specs.Outcomes.{is_null, condition_of, outcome_of}
use Rattle.span_expr.specs.Operators.{number, is_int64, apply_operator, calculate, concatenation, calculate_ints, arithmetic_negation, compare_values, holds, has_prefix, length_of}
use Rattle.span_pattern.specs.Patterns.{like}
use Rattle.span_soundness.specs.Types.{IsNullOnlyIf, are_same, is_text, is_operand}
use Rattle.span_soundness.specs.Laws.{NullComesOfNull}
use Rattle.span_soundness.proofs.Sameness.{not_true}

where_null : (o : Outcome) → IsNullOnlyIf true o
where_null (Val value.Null) = refl
where_null (Val (value.Int n)) = tt {0}
where_null (Val (value.Str s)) = tt {0}
where_null (Val (value.Bytes s)) = tt {0}
where_null (Val (value.Bool b)) = tt {0}
where_null Fault = tt {0}

number_null : (b : Bool) (z : ℤ) → IsNullOnlyIf b (number z)
number_null b z = of_test (is_int64 z) where
  of_test : (t : Bool) → IsNullOnlyIf b (if t then Val (value.Int z) else Fault)
  of_test true = tt {0}
  of_test false = tt {0}

-- ---- numbers

abbrev IsNumeric : Operator → Type 0
IsNumeric op = is_operand op kind.Int ≡ true

numbers_null : (op : Operator) (a b : ℤ) → IsNumeric op → IsNullOnlyIf false (calculate_ints op a b)
numbers_null Add a b is = number_null false (a +ℤ b)
numbers_null Subtract a b is = number_null false (a -ℤ b)
numbers_null Multiply a b is = number_null false (a *ℤ b)
numbers_null Divide a (pos zero) is = tt {0}
numbers_null Divide a (pos (suc n)) is = number_null false (int_div a (pos (suc n)))
numbers_null Divide a (negsuc n) is = number_null false (int_div a (negsuc n))
numbers_null Modulo a (pos zero) is = tt {0}
numbers_null Modulo a (pos (suc n)) is = tt {0}
numbers_null Modulo a (negsuc n) is = tt {0}
numbers_null Concatenate a b is = not_true is

calculated_null : (op : Operator) (v w : Value) → IsNumeric op → is_of_kind kind.Int v ≡ true → is_of_kind kind.Int w ≡ true → IsNullOnlyIf (is_null v || is_null w) (calculate op v w)
calculated_null op value.Null w numeric v_is w_is = where_null (calculate op value.Null w)
calculated_null op (value.Int a) value.Null numeric v_is w_is = refl
calculated_null op (value.Int a) (value.Int b) numeric v_is w_is = numbers_null op a b numeric
calculated_null op (value.Int a) (value.Str s) numeric v_is w_is = not_true w_is
calculated_null op (value.Int a) (value.Bytes s) numeric v_is w_is = not_true w_is
calculated_null op (value.Int a) (value.Bool b) numeric v_is w_is = not_true w_is
calculated_null op (value.Str s) w numeric v_is w_is = not_true v_is
calculated_null op (value.Bytes s) w numeric v_is w_is = not_true v_is
calculated_null op (value.Bool b) w numeric v_is w_is = not_true v_is

numeric_null : (op : Operator) (k : Kind) (v w : Value) → IsNumeric op → are_same kind.Int k ≡ true → is_of_kind k v ≡ true → is_of_kind k w ≡ true → IsNullOnlyIf (is_null v || is_null w) (calculate op v w)
numeric_null op kind.Int v w numeric same v_is w_is = calculated_null op v w numeric v_is w_is
numeric_null op kind.Str v w numeric same v_is w_is = not_true same
numeric_null op kind.Bytes v w numeric same v_is w_is = not_true same
numeric_null op kind.Bool v w numeric same v_is w_is = not_true same

opposite_null : (v : Value) → is_of_kind kind.Int v ≡ true → IsNullOnlyIf (is_null v) (arithmetic_negation v)
opposite_null value.Null is = refl
opposite_null (value.Int a) is = number_null false (neg_ℤ a)
opposite_null (value.Str s) is = not_true is
opposite_null (value.Bytes s) is = not_true is
opposite_null (value.Bool b) is = not_true is

-- ---- strings

-- what two strings or two BYTES answer
module _ (f : Value → Value → Outcome) (strings : (a b : List ℕ) → IsNullOnlyIf false (f (value.Str a) (value.Str b))) (bytes : (a b : List ℕ) → IsNullOnlyIf false (f (value.Bytes a) (value.Bytes b))) where
  after_string : (a : List ℕ) (w : Value) → is_of_kind kind.Str w ≡ true → IsNullOnlyIf (is_null w) (f (value.Str a) w)
  after_string a value.Null is = where_null (f (value.Str a) value.Null)
  after_string a (value.Str b) is = strings a b
  after_string a (value.Int n) is = not_true is
  after_string a (value.Bytes b) is = not_true is
  after_string a (value.Bool b) is = not_true is

  after_bytes : (a : List ℕ) (w : Value) → is_of_kind kind.Bytes w ≡ true → IsNullOnlyIf (is_null w) (f (value.Bytes a) w)
  after_bytes a value.Null is = where_null (f (value.Bytes a) value.Null)
  after_bytes a (value.Bytes b) is = bytes a b
  after_bytes a (value.Int n) is = not_true is
  after_bytes a (value.Str b) is = not_true is
  after_bytes a (value.Bool b) is = not_true is

  string_null : (v w : Value) → is_of_kind kind.Str v ≡ true → is_of_kind kind.Str w ≡ true → IsNullOnlyIf (is_null v || is_null w) (f v w)
  string_null value.Null w v_is w_is = where_null (f value.Null w)
  string_null (value.Str a) w v_is w_is = after_string a w w_is
  string_null (value.Int n) w v_is w_is = not_true v_is
  string_null (value.Bytes a) w v_is w_is = not_true v_is
  string_null (value.Bool b) w v_is w_is = not_true v_is

  bytes_null : (v w : Value) → is_of_kind kind.Bytes v ≡ true → is_of_kind kind.Bytes w ≡ true → IsNullOnlyIf (is_null v || is_null w) (f v w)
  bytes_null value.Null w v_is w_is = where_null (f value.Null w)
  bytes_null (value.Bytes a) w v_is w_is = after_bytes a w w_is
  bytes_null (value.Int n) w v_is w_is = not_true v_is
  bytes_null (value.Str a) w v_is w_is = not_true v_is
  bytes_null (value.Bool b) w v_is w_is = not_true v_is

  text_null : (k : Kind) (v w : Value) → is_text k ≡ true → is_of_kind k v ≡ true → is_of_kind k w ≡ true → IsNullOnlyIf (is_null v || is_null w) (f v w)
  text_null kind.Str v w text v_is w_is = string_null v w v_is w_is
  text_null kind.Bytes v w text v_is w_is = bytes_null v w v_is w_is
  text_null kind.Int v w text v_is w_is = not_true text
  text_null kind.Bool v w text v_is w_is = not_true text

applied_null : (op : Operator) (k : Kind) (v w : Value) → is_operand op k ≡ true → is_of_kind k v ≡ true → is_of_kind k w ≡ true → IsNullOnlyIf (is_null v || is_null w) (apply_operator op v w)
applied_null Concatenate k v w operand v_is w_is = text_null concatenation (λ a b. tt {0}) (λ a b. tt {0}) k v w operand v_is w_is
applied_null Add k v w operand v_is w_is = numeric_null Add k v w refl operand v_is w_is
applied_null Subtract k v w operand v_is w_is = numeric_null Subtract k v w refl operand v_is w_is
applied_null Multiply k v w operand v_is w_is = numeric_null Multiply k v w refl operand v_is w_is
applied_null Divide k v w operand v_is w_is = numeric_null Divide k v w refl operand v_is w_is
applied_null Modulo k v w operand v_is w_is = numeric_null Modulo k v w refl operand v_is w_is

measured_null : (k : Kind) (v : Value) → is_text k ≡ true → is_of_kind k v ≡ true → IsNullOnlyIf (is_null v) (length_of v)
measured_null k value.Null text is = refl
measured_null k (value.Str s) text is = tt {0}
measured_null k (value.Bytes s) text is = tt {0}
measured_null kind.Str (value.Int n) text is = not_true is
measured_null kind.Bytes (value.Int n) text is = not_true is
measured_null kind.Int (value.Int n) text is = not_true text
measured_null kind.Bool (value.Int n) text is = not_true is
measured_null kind.Str (value.Bool b) text is = not_true is
measured_null kind.Bytes (value.Bool b) text is = not_true is
measured_null kind.Int (value.Bool b) text is = not_true is
measured_null kind.Bool (value.Bool b) text is = not_true text

like_null : (pattern : List PatternPart) (v : Value) → is_of_kind kind.Str v ≡ true → IsNullOnlyIf (is_null v) (like pattern v)
like_null pattern value.Null is = refl
like_null pattern (value.Str s) is = tt {0}
like_null pattern (value.Int n) is = not_true is
like_null pattern (value.Bytes s) is = not_true is
like_null pattern (value.Bool b) is = not_true is

-- ---- comparisons and conditions

compared_null : (c : Comparison) (v w : Value) → IsNullOnlyIf (is_null v || is_null w) (compare_values c v w)
compared_null c v w = of_test (is_null v || is_null w) where
  of_test : (b : Bool) → IsNullOnlyIf b (if b then Val value.Null else Val (value.Bool (holds c (value_order v w))))
  of_test true = refl
  of_test false = tt {0}

condition_null : (v : Value) → is_of_kind kind.Bool v ≡ true → IsNullOnlyIf (is_null v) (outcome_of (condition_of (Val v)))
condition_null value.Null is = refl
condition_null (value.Bool true) is = tt {0}
condition_null (value.Bool false) is = tt {0}
condition_null (value.Int n) is = not_true is
condition_null (value.Str s) is = not_true is
condition_null (value.Bytes s) is = not_true is

pub null_comes_of_null : NullComesOfNull
null_comes_of_null = (applied_null, opposite_null, compared_null, like_null, text_null has_prefix (λ a b. tt {0}) (λ a b. tt {0}), measured_null, condition_null)
