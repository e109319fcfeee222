-- Numbers at the front of bytes.
use Rattle.std.proofs.Common.{◌≡◌, ℕ, ℤ, zero, suc, ◌+◌, ◌-◌, ◌<◌, List, [], ◌∷◌, Bool, true, false, sym, ◌∙◌, ap, subst, arith, length, get_or, Option, Some, None, IfSome}
use Rattle.std.specs.Prelude.{FitsSigned}
use Rattle.std.specs.Int.{to_be_bytes, from_be_bytes, w64}
use Rattle.std.proofs.lemmas.Bool.Decides.{nat_tests}
use Rattle.std.proofs.lemmas.List.{length-map, get_or-map}
use Rattle.std.proofs.lemmas.Nat.{be_bytes_8}
use Rattle.std.proofs.Math.Nat.{eq-sub_of_add-eq}
use Rattle.span_value.specs.declared.value.Value.TheVariants.{Int}
use Rattle.span_value.specs.declared.value.Kind.{Kind}
use Rattle.span_value.specs.declared.value.Kind.TheVariants as kind
use Rattle.span_schema.specs.Fitting.{Fits}
use Rattle.span_schema.specs.declared.layout.KeyPart.{KeyPart}
use Rattle.span_keycode.specs.Order.{flipped, complement}
use Rattle.span_keycode.specs.Coding.{in_direction}
use Rattle.span_keycode.specs.Reads.{IsColumn}
use Rattle.span_keycode.proofs.Plains.{column_found}
use Rattle.span_rowreader.specs.Numbers.{IsNumberOf}

-- ---- the complement of a word

flipped_is : (b : ℕ) → b < 256 → flipped b ≡ 255 - b
flipped_is b small = grind (arith, nat_tests)

flipped_at : (bs : List ℕ) (i : ℕ) → i < length bs → get_or bs i 0 < 256 → get_or (complement bs) i 0 ≡ 255 - get_or bs i 0
flipped_at bs i less small = get_or-map flipped bs i 0 0 less ∙ flipped_is (get_or bs i 0) small

flipped_small : (bs : List ℕ) → ((i : ℕ) → get_or bs i 0 < 256) → (i : ℕ) → get_or (complement bs) i 0 < 256
flipped_small [] small i = omega arith
flipped_small (b ∷ bs) small zero = omega (arith, flipped_is b (small 0))
flipped_small (b ∷ bs) small (suc i) = flipped_small bs (λ j. small (suc j)) i

-- eight bytes, each taken from 255
word_from : (a b c d e f g h n : ℕ) (bs : List ℕ) → a < 256 → b < 256 → c < 256 → d < 256 → e < 256 → f < 256 → g < 256 → h < 256
    → get_or bs 0 0 + a ≡ 255 → get_or bs 1 0 + b ≡ 255 → get_or bs 2 0 + c ≡ 255 → get_or bs 3 0 + d ≡ 255 → get_or bs 4 0 + e ≡ 255 → get_or bs 5 0 + f ≡ 255 → get_or bs 6 0 + g ≡ 255 → get_or bs 7 0 + h ≡ 255
    → from_be_bytes w64 bs + from_be_bytes w64 (a ∷ b ∷ c ∷ d ∷ e ∷ f ∷ g ∷ h ∷ []) ≡ 18446744073709551615
word_from a b c d e f g h n bs pa pb pc pd pe pf pg ph ea eb ec ed ee ef eg eh = omega arith

flipped_sum : (bs : List ℕ) (i : ℕ) → i < length bs → get_or bs i 0 < 256 → get_or (complement bs) i 0 + get_or bs i 0 ≡ 255
flipped_sum bs i less small = omega (arith, flipped_at bs i less small)

word_turned : (bs : List ℕ) (n : ℕ) → length bs ≡ 8 → ((i : ℕ) → get_or bs i 0 < 256) → n ≡ from_be_bytes w64 bs → complement bs ≡ to_be_bytes w64 (18446744073709551615 - n)
word_turned bs n len small e =
    let sum : from_be_bytes w64 (complement bs) + from_be_bytes w64 bs ≡ 18446744073709551615 =
    word_from (get_or bs 0 0) (get_or bs 1 0) (get_or bs 2 0) (get_or bs 3 0) (get_or bs 4 0) (get_or bs 5 0) (get_or bs 6 0) (get_or bs 7 0) n (complement bs)
    (small 0) (small 1) (small 2) (small 3) (small 4) (small 5) (small 6) (small 7)
    (flipped_sum bs 0 (omega arith) (small 0)) (flipped_sum bs 1 (omega arith) (small 1)) (flipped_sum bs 2 (omega arith) (small 2)) (flipped_sum bs 3 (omega arith) (small 3))
    (flipped_sum bs 4 (omega arith) (small 4)) (flipped_sum bs 5 (omega arith) (small 5)) (flipped_sum bs 6 (omega arith) (small 6)) (flipped_sum bs 7 (omega arith) (small 7)) in
    sym (be_bytes_8 (complement bs) (18446744073709551615 - n) (length-map bs flipped ∙ len) (flipped_small bs small)
    (ap (λ (m : ℕ). 18446744073709551615 - m) e ∙ sym (eq-sub_of_add-eq (from_be_bytes w64 (complement bs)) (from_be_bytes w64 bs) sum)))

pub word_descending : (way : Bool) (bs : List ℕ) (n : ℕ) → way ≡ true → length bs ≡ 8 → ((i : ℕ) → get_or bs i 0 < 256) → n ≡ from_be_bytes w64 bs
    → in_direction way bs ≡ to_be_bytes w64 (18446744073709551615 - n)
word_descending way bs n is len small e = ap (λ (b : Bool). in_direction b bs) is ∙ word_turned bs n len small e

pub word_ascending : (way : Bool) (bs : List ℕ) (n : ℕ) → way ≡ false → length bs ≡ 8 → ((i : ℕ) → get_or bs i 0 < 256) → n ≡ from_be_bytes w64 bs
    → in_direction way bs ≡ to_be_bytes w64 n
word_ascending way bs n is len small e = ap (λ (b : Bool). in_direction b bs) is ∙ sym (be_bytes_8 bs n len small e)

-- ---- a number of a column

pub some_column_read : (c : KeyPart) (bs : List ℕ) (found : Option ℤ) → c.kind ≡ kind.Int → IfSome found (IsNumberOf c.desc bs) → IfSome found (λ z. IsColumn c bs (Int z) 9)
some_column_read c bs None is number = tt
some_column_read c bs (Some z) is number =
    let P : Kind → Type 0 = λ k. Fits k (Int z) in
    column_found c bs (Int z) 9 number.within (record { fits = subst P (sym is) number.fits; code = number.code })

-- a number that fits a kind has 64 bits
pub number_fits : (k : Kind) (z : ℤ) → Fits k (Int z) → FitsSigned w64 z
number_fits kind.Int z fits = fits
number_fits kind.Str z fits = absurd fits
number_fits kind.Bytes z fits = absurd fits
number_fits kind.Bool z fits = absurd fits
