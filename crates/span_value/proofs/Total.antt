-- The order of values is total, and only a value is equal to itself.
use Rattle.std.proofs.Common.{◌≡◌, ℕ, ℤ, pos, Bool, true, false, List, [], refl, sym, ap, subst, ◌∙◌, arith}
use Rattle.std.specs.declared.cmp.Ordering.{Ordering}
use Rattle.std.specs.declared.cmp.Ordering.TheVariants.{Equal}
use Rattle.std.specs.Ordering.{nat_cmp, int_cmp, bool_cmp, ordering_reverse, then_cmp, on, is_eq}
use Rattle.std.specs.Cmp.{IsTotalOrder, then_total, on_total, tied_itself}
use Rattle.std.proofs.lemmas.Cmp.{nat_cmp_total, int_cmp_total, nat_list_cmp_total}
use Rattle.std.specs.Cmp.Lexicographic.{slice_cmp, same_text, texts_ties}
use Rattle.span_value.specs.declared.value.Value.{Value}
use Rattle.span_value.specs.declared.value.Value.TheVariants as value
use Rattle.span_value.specs.Orders.{kind_rank, value_order}
use Rattle.span_value.proofs.Comparisons.{then_equal}

-- a value as a rank, a number and bytes
abbrev number_in : Value → ℤ
number_in (value.Int n) = n
number_in (value.Bool true) = pos 1
number_in _ = pos 0

abbrev bytes_in : Value → List ℕ
bytes_in (value.Str text) = text
bytes_in (value.Bytes bytes) = bytes
bytes_in _ = []

abbrev by_parts : Value → Value → Ordering
by_parts = then_cmp (on kind_rank nat_cmp) (then_cmp (on number_in int_cmp) (on bytes_in (slice_cmp nat_cmp)))

by_parts_total : IsTotalOrder by_parts
by_parts_total = then_total (on_total kind_rank nat_cmp_total) (then_total (on_total number_in int_cmp_total) (on_total bytes_in nat_list_cmp_total))

same_parts : (x y : Value) → value_order x y ≡ by_parts x y
same_parts value.Null value.Null = refl
same_parts value.Null (value.Bool b) = refl
same_parts value.Null (value.Int n) = refl
same_parts value.Null (value.Str s) = refl
same_parts value.Null (value.Bytes s) = refl
same_parts (value.Bool a) value.Null = refl
same_parts (value.Bool false) (value.Bool false) = refl
same_parts (value.Bool false) (value.Bool true) = refl
same_parts (value.Bool true) (value.Bool false) = refl
same_parts (value.Bool true) (value.Bool true) = refl
same_parts (value.Bool a) (value.Int n) = refl
same_parts (value.Bool a) (value.Str s) = refl
same_parts (value.Bool a) (value.Bytes s) = refl
same_parts (value.Int m) value.Null = refl
same_parts (value.Int m) (value.Bool b) = refl
same_parts (value.Int m) (value.Int n) = sym (then_equal (int_cmp m n))
same_parts (value.Int m) (value.Str s) = refl
same_parts (value.Int m) (value.Bytes s) = refl
same_parts (value.Str t) value.Null = refl
same_parts (value.Str t) (value.Bool b) = refl
same_parts (value.Str t) (value.Int n) = refl
same_parts (value.Str t) (value.Str s) = refl
same_parts (value.Str t) (value.Bytes s) = refl
same_parts (value.Bytes t) value.Null = refl
same_parts (value.Bytes t) (value.Bool b) = refl
same_parts (value.Bytes t) (value.Int n) = refl
same_parts (value.Bytes t) (value.Str s) = refl
same_parts (value.Bytes t) (value.Bytes s) = refl

pub value_order_total : IsTotalOrder value_order
value_order_total = subst IsTotalOrder (λ i x y. sym (same_parts x y) i) by_parts_total

same_bytes : (xs ys : List ℕ) → slice_cmp nat_cmp xs ys ≡ Equal → xs ≡ ys
same_bytes xs ys e = same_text xs ys (sym (texts_ties xs ys ∙ ap is_eq e))

same_bool : (a b : Bool) → bool_cmp a b ≡ Equal → a ≡ b
same_bool true true e = refl
same_bool false false e = refl
same_bool true false e = absurd cc
same_bool false true e = absurd cc

pub same_int : (m n : ℤ) → int_cmp m n ≡ Equal → m ≡ n
same_int m n e = grind arith

pub value_order_equal : (x y : Value) → value_order x y ≡ Equal → x ≡ y
value_order_equal value.Null value.Null e = refl
value_order_equal (value.Bool a) (value.Bool b) e = ap value.Bool (same_bool a b e)
value_order_equal (value.Int a) (value.Int b) e = ap value.Int (same_int a b e)
value_order_equal (value.Str a) (value.Str b) e = ap value.Str (same_bytes a b e)
value_order_equal (value.Bytes a) (value.Bytes b) e = ap value.Bytes (same_bytes a b e)
value_order_equal value.Null (value.Bool b) e = absurd cc
value_order_equal value.Null (value.Int n) e = absurd cc
value_order_equal value.Null (value.Str s) e = absurd cc
value_order_equal value.Null (value.Bytes s) e = absurd cc
value_order_equal (value.Bool a) value.Null e = absurd cc
value_order_equal (value.Bool a) (value.Int n) e = absurd cc
value_order_equal (value.Bool a) (value.Str s) e = absurd cc
value_order_equal (value.Bool a) (value.Bytes s) e = absurd cc
value_order_equal (value.Int m) value.Null e = absurd cc
value_order_equal (value.Int m) (value.Bool b) e = absurd cc
value_order_equal (value.Int m) (value.Str s) e = absurd cc
value_order_equal (value.Int m) (value.Bytes s) e = absurd cc
value_order_equal (value.Str t) value.Null e = absurd cc
value_order_equal (value.Str t) (value.Bool b) e = absurd cc
value_order_equal (value.Str t) (value.Int n) e = absurd cc
value_order_equal (value.Str t) (value.Bytes s) e = absurd cc
value_order_equal (value.Bytes t) value.Null e = absurd cc
value_order_equal (value.Bytes t) (value.Bool b) e = absurd cc
value_order_equal (value.Bytes t) (value.Int n) e = absurd cc
value_order_equal (value.Bytes t) (value.Str s) e = absurd cc

-- for the code: an answer of the order says which of the two it is
pub equal_is : (x y : Value) (o : Ordering) → o ≡ value_order x y → (o ≡ Equal → x ≡ y) × (x ≡ y → o ≡ Equal)
equal_is x y o h = (λ e. value_order_equal x y (sym h ∙ e), λ e. h ∙ ap (value_order x) (sym e) ∙ tied_itself value_order_total x)

pub turned_is : (x y : Value) (o : Ordering) → o ≡ value_order x y → value_order y x ≡ ordering_reverse o
turned_is x y o h = value_order_total.antisymm y x ∙ ap ordering_reverse (sym h)
