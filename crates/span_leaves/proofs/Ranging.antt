-- Ranges that are narrowed by one condition after another, and values whose kind is tested.
use Rattle.std.proofs.Common.{rules, ◌≡◌, ◌∙◌, ℕ, ℤ, pos, negsuc, nat_lt, sym, ap, refl, Bool, true, false, ◌&&◌, List, [], ◌∷◌, ◌++◌, arith}
use Rattle.std.specs.Prelude.{FitsSigned}
use Rattle.std.proofs.lemmas.Bool.Decides.{nat_tests}
use Rattle.std.specs.Int.{w64}
use Rattle.std.proofs.lemmas.Str.{is_utf8-from_IsUtf8}
use Rattle.span_value.specs.declared.value.Kind.{Kind}
use Rattle.span_value.specs.declared.value.Kind.TheVariants as kind
use Rattle.span_value.specs.declared.value.Value.{Value}
use Rattle.span_value.specs.declared.value.Value.TheVariants as value
use Rattle.span_schema.specs.Fitting.{Fits, AreBytes, is_of_kind}
use Rattle.span_schema.specs.declared.layout.KeyPart.{KeyPart}
use Rattle.span_keycode.specs.declared.range.KeyRange.{KeyRange}
use Rattle.span_leaves.specs.Ranges.{KeyBound, bounded, narrowed_by, are_bytes, is_of_type}
use Rattle.span_value.specs.Numbers.{is_int64}

-- ---- values of a type

number_is : (i : ℤ) → FitsSigned w64 i → is_int64 i ≡ true
number_is (pos n) fits = let below = fits.sfits in grind (arith, nat_tests)
number_is (negsuc n) fits = let below = fits.sfits in grind (arith, nat_tests)

bytes_pass : (bs : List ℕ) → AreBytes bs → are_bytes bs ≡ true
bytes_pass [] are = refl
bytes_pass (b ∷ bs) are = let first : nat_lt b 256 ≡ true = let below = are.0 in grind (arith, nat_tests) in let more = bytes_pass bs are.1 in search (rules, first, more)

-- a value that fits passes the test
fitting_is : (k : Kind) (v : Value) → Fits k v → is_of_type k v ≡ true
fitting_is k value.Null fits = refl
fitting_is kind.Int (value.Int i) fits = number_is i fits
fitting_is kind.Str (value.Str bs) fits = ap (λ (b : Bool). b && are_bytes bs) (is_utf8-from_IsUtf8 bs fits.0) ∙ bytes_pass bs fits.1
fitting_is kind.Bytes (value.Bytes bs) fits = bytes_pass bs fits
fitting_is kind.Bool (value.Bool b) fits = refl
fitting_is kind.Int (value.Str bs) fits = absurd fits
fitting_is kind.Int (value.Bytes bs) fits = absurd fits
fitting_is kind.Int (value.Bool b) fits = absurd fits
fitting_is kind.Str (value.Int i) fits = absurd fits
fitting_is kind.Str (value.Bytes bs) fits = absurd fits
fitting_is kind.Str (value.Bool b) fits = absurd fits
fitting_is kind.Bytes (value.Int i) fits = absurd fits
fitting_is kind.Bytes (value.Str bs) fits = absurd fits
fitting_is kind.Bytes (value.Bool b) fits = absurd fits
fitting_is kind.Bool (value.Int i) fits = absurd fits
fitting_is kind.Bool (value.Str bs) fits = absurd fits
fitting_is kind.Bool (value.Bytes bs) fits = absurd fits

-- a value of another kind does not
other_is_not : (k : Kind) (v : Value) → is_of_kind k v ≡ false → is_of_type k v ≡ false
other_is_not k value.Null is = cc
other_is_not kind.Int (value.Int i) is = cc
other_is_not kind.Str (value.Str bs) is = cc
other_is_not kind.Bytes (value.Bytes bs) is = cc
other_is_not kind.Bool (value.Bool b) is = cc
other_is_not kind.Int (value.Str bs) is = refl
other_is_not kind.Int (value.Bytes bs) is = refl
other_is_not kind.Int (value.Bool b) is = refl
other_is_not kind.Str (value.Int i) is = refl
other_is_not kind.Str (value.Bytes bs) is = refl
other_is_not kind.Str (value.Bool b) is = refl
other_is_not kind.Bytes (value.Int i) is = refl
other_is_not kind.Bytes (value.Str bs) is = refl
other_is_not kind.Bytes (value.Bool b) is = refl
other_is_not kind.Bool (value.Int i) is = refl
other_is_not kind.Bool (value.Str bs) is = refl
other_is_not kind.Bool (value.Bytes bs) is = refl

-- a test of the kind is one of the type, of a value that fits where its kind is right
pub same_test : (k : Kind) (v : Value) (b : Bool) → b ≡ is_of_kind k v → (b ≡ true → Fits k v) → b ≡ is_of_type k v
same_test k v true is fits = sym (fitting_is k v (fits refl))
same_test k v false is fits = sym (other_is_not k v (sym is))

-- ---- ranges

module _ (root : ℕ) (part : KeyPart) where
  abbrev IsInTwo : List KeyBound → List KeyBound → KeyRange → Type 0
  IsInTwo xs ys r = narrowed_by root part r (xs ++ ys) ≡ narrowed_by root part (narrowed_by root part r xs) ys

  -- by some bounds, and then by others
  pub narrowed_by_append : (r : KeyRange) (xs ys : List KeyBound) → IsInTwo xs ys r
  narrowed_by_append r [] ys = refl
  narrowed_by_append r (x ∷ xs) ys = by_test (is_of_type part.kind x.1) refl (narrowed_by_append (bounded root part r x) xs ys) (narrowed_by_append r xs ys) where
    by_test : (t : Bool) → is_of_type part.kind x.1 ≡ t → IsInTwo xs ys (bounded root part r x) → IsInTwo xs ys r → IsInTwo (x ∷ xs) ys r
    by_test true is kept dropped = rw is kept
    by_test false is kept dropped = rw is dropped
