-- Each coding decides.
use Rattle.std.proofs.Common.{◌≡◌, ℕ, ℤ, pos, negsuc, zero, suc, ◌+◌, ◌*◌, ◌%◌, ◌^◌, ◌<◌, ◌≤◌, List, [], ◌∷◌, ◌++◌, refl, ◌∙◌, ap, arith, true, false, Bool, inl, inr}
use Rattle.std.specs.Ordering.{nat_cmp, ordering_then}
use Rattle.std.specs.declared.cmp.Ordering.{Ordering}
use Rattle.std.specs.declared.cmp.Ordering.TheVariants.{Less, Equal, Greater}
use Rattle.std.specs.Int.{to_be_bytes, w64, bytes_high_first, byte_at}
use Rattle.std.proofs.lemmas.Bool.Decides.{nat_tests}
use Rattle.std.specs.Prelude.{FitsSigned}
use Rattle.std.specs.Ordering.{int_cmp}
use Rattle.std.proofs.lemmas.Int.{ints}
use Rattle.span_value.specs.declared.value.Value.{Value}
use Rattle.span_value.specs.declared.value.Value.TheVariants.{Null, Int, Str, Bytes, Bool as Flag}
use Rattle.span_value.specs.declared.value.Kind.{Kind}
use Rattle.span_value.specs.declared.value.Kind.TheVariants.{Int as Numbers, Str as Texts, Bytes as Strings, Bool as Flags}
use Rattle.span_schema.specs.declared.layout.KeyPart.{KeyPart}
use Rattle.span_keycode.specs.Order.{byte_order, Decides}
use Rattle.span_keycode.specs.Coding.{to_unsigned, escaped, escaped_byte, bit, plain, in_direction, column_code, AreBytes, Fits, value_cmp, apply_direction, column_cmp, AreFit, tuple_code, tuple_cmp}
use Rattle.std.proofs.lemmas.Bool.{cases_order}
use Rattle.std.proofs.Math.Nat.{mul-le-mul_right, mod-lt, pow-suc, pow-succ'}
use Rattle.std.proofs.Math.Arith.{mod-mul}
use Rattle.span_value.proofs.Comparisons.{number_less, number_greater, number_equal}
use Rattle.span_value.proofs.Numbers.{unsigned_end}
use Rattle.span_keycode.proofs.Order.{then_assoc, decides-append, decides-nothing, decides-byte, decides-less, decides-greater, decides-complement}

-- one byte in front
pub decides-cons : (a b : ℕ) (p q : List ℕ) (o : Ordering) → Decides p q o → Decides (a ∷ p) (b ∷ q) (ordering_then (nat_cmp a b) o)
decides-cons a b p q o d = record { at = λ x y. ap (ordering_then (nat_cmp a b)) (d.at x y) ∙ then_assoc (nat_cmp a b) o (byte_order x y) }

-- numbers of two digits compare digit by digit
pub two_digits : (P a b r s : ℕ) → r < P → s < P → nat_cmp (a * P + r) (b * P + s) ≡ ordering_then (nat_cmp a b) (nat_cmp r s)
two_digits P a b r s low_r low_s = elim (cases_order a b) [
  | inl e ↦ (let same : nat_cmp a b ≡ Equal = number_equal a b e in rw (same, e) (shifted (b * P) r s))
  | inr (inl lt) ↦ (let l : nat_cmp a b ≡ Less = number_less a b lt in let more : (a + 1) * P ≤ b * P = mul-le-mul_right P (omega arith) in rw l (number_less (a * P + r) (b * P + s) (omega arith)))
  | inr (inr gt) ↦ (let g : nat_cmp a b ≡ Greater = number_greater a b gt in let more : (b + 1) * P ≤ a * P = mul-le-mul_right P (omega arith) in rw g (number_greater (a * P + r) (b * P + s) (omega arith)))
]
  where
    shifted : (n r s : ℕ) → nat_cmp (n + r) (n + s) ≡ nat_cmp r s
    shifted n r s = grind (arith, nat_tests)

pos_pow : (k : ℕ) → 0 < 256 ^ k
pos_pow zero = omega arith
pos_pow (suc k) = let p : 0 < 256 ^ k = pos_pow k in rw (pow-suc 256 k) (omega arith)

splits : (k m : ℕ) → m % 256 ^ suc k ≡ byte_at k m * 256 ^ k + m % 256 ^ k
splits zero m = let z : m % 1 ≡ 0 = omega arith in rw z (omega arith)
splits (suc k) m = rw (pow-succ' 256 (suc k)) (mod-mul m {m = 256} {c = 256 ^ suc k} (omega arith) (pos_pow (suc k)))

-- bytes of one length, from the highest on, compare as the numbers
decides-high_first : (k m n : ℕ) → Decides (bytes_high_first k m) (bytes_high_first k n) (nat_cmp (m % 256 ^ k) (n % 256 ^ k))
decides-high_first zero m n = let a : m % 1 ≡ 0 = omega arith in let b : n % 1 ≡ 0 = omega arith in rw (a, b) decides-nothing
decides-high_first (suc k) m n =
    let small : (x : ℕ) → x % 256 ^ k < 256 ^ k = λ x. mod-lt x (pos_pow k) in
    rw (splits k m, splits k n, two_digits (256 ^ k) (byte_at k m) (byte_at k n) (m % 256 ^ k) (n % 256 ^ k) (small m) (small n))
    (decides-cons (byte_at k m) (byte_at k n) (bytes_high_first k m) (bytes_high_first k n) _ (decides-high_first k m n))

pub decides-number : (m n : ℕ) → m < 2 ^ 64 → n < 2 ^ 64 → Decides (to_be_bytes w64 m) (to_be_bytes w64 n) (nat_cmp m n)
decides-number m n low_m low_n =
    let a : m % 2 ^ 64 ≡ m = omega arith in let b : n % 2 ^ 64 ≡ n = omega arith in
    let d : Decides (to_be_bytes w64 m) (to_be_bytes w64 n) (nat_cmp (m % 2 ^ 64) (n % 2 ^ 64)) = decides-high_first 8 m n in
    rw (a, b) at d

-- one escaped byte, whatever follows
decides-escaped_byte : (a b : ℕ) (p q : List ℕ) (o : Ordering) → Decides p q o → Decides (escaped_byte a p) (escaped_byte b q) (ordering_then (nat_cmp a b) o)
decides-escaped_byte zero zero p q o d = record { at = λ x y. d.at x y }
decides-escaped_byte zero (suc b) p q o d = let e = number_less 0 (suc b) (omega arith) in rw e (decides-less 0 (suc b) (255 ∷ p) q e)
decides-escaped_byte (suc a) zero p q o d = let e = number_greater (suc a) 0 (omega arith) in rw e (decides-greater (suc a) 0 p (255 ∷ q) e)
decides-escaped_byte (suc a) (suc b) p q o d = decides-cons (suc a) (suc b) p q o d

-- the end is below each byte
end_first : (b : ℕ) (q : List ℕ) → Decides (0 ∷ 1 ∷ []) (escaped_byte b q) Less
end_first zero q = record { at = λ x y. refl }
end_first (suc b) q = decides-less 0 (suc b) (1 ∷ []) q (number_less 0 (suc b) (omega arith))

end_last : (a : ℕ) (p : List ℕ) → Decides (escaped_byte a p) (0 ∷ 1 ∷ []) Greater
end_last zero p = record { at = λ x y. refl }
end_last (suc a) p = decides-greater (suc a) 0 p (1 ∷ []) (number_greater (suc a) 0 (omega arith))

pub decides-escaped : (bs cs : List ℕ) → Decides (escaped bs) (escaped cs) (byte_order bs cs)
decides-escaped [] [] = record { at = λ x y. refl }
decides-escaped [] (c ∷ cs) = end_first c (escaped cs)
decides-escaped (b ∷ bs) [] = end_last b (escaped bs)
decides-escaped (b ∷ bs) (c ∷ cs) = decides-escaped_byte b c (escaped bs) (escaped cs) (byte_order bs cs) (decides-escaped bs cs)

-- the same byte in front
same_front : (a : ℕ) (p q : List ℕ) (o : Ordering) → Decides p q o → Decides (a ∷ p) (a ∷ q) o
same_front a p q o d = rw (number_equal a a refl) at (decides-cons a a p q o d)

-- a number moved up compares as the number itself
lifted_order : (i j : ℤ) → FitsSigned w64 i → FitsSigned w64 j → nat_cmp (to_unsigned i) (to_unsigned j) ≡ int_cmp i j
lifted_order (pos m) (pos n) f g = grind (arith, ints, nat_tests)
lifted_order (pos m) (negsuc n) f g = grind (arith, ints, nat_tests)
lifted_order (negsuc m) (pos n) f g = grind (arith, ints, nat_tests)
lifted_order (negsuc m) (negsuc n) f g = grind (arith, ints, nat_tests)

decides-signed : (i j : ℤ) → FitsSigned w64 i → FitsSigned w64 j → Decides (to_be_bytes w64 (to_unsigned i)) (to_be_bytes w64 (to_unsigned j)) (int_cmp i j)
decides-signed i j f g = rw (← lifted_order i j f g) (decides-number (to_unsigned i) (to_unsigned j) (unsigned_end i f) (unsigned_end j g))

marked_less : (p q : List ℕ) → Decides (0 ∷ p) (1 ∷ q) Less
marked_less p q = decides-less 0 1 p q refl

marked_greater : (p q : List ℕ) → Decides (1 ∷ p) (0 ∷ q) Greater
marked_greater p q = decides-greater 1 0 p q refl

pub decides-plain : (k : Kind) (v w : Value) → Fits k v → Fits k w → Decides (plain v) (plain w) (value_cmp v w)
decides-plain k Null Null f g = record { at = λ x y. refl }
decides-plain k Null (Int j) f g = marked_less [] _
decides-plain k Null (Str cs) f g = marked_less [] _
decides-plain k Null (Bytes cs) f g = marked_less [] _
decides-plain k Null (Flag b) f g = marked_less [] _
decides-plain k (Int i) Null f g = marked_greater _ []
decides-plain k (Str bs) Null f g = marked_greater _ []
decides-plain k (Bytes bs) Null f g = marked_greater _ []
decides-plain k (Flag a) Null f g = marked_greater _ []
decides-plain Numbers (Int i) (Int j) f g = same_front 1 (to_be_bytes w64 (to_unsigned i)) (to_be_bytes w64 (to_unsigned j)) (int_cmp i j) (decides-signed i j f g)
decides-plain Texts (Str bs) (Str cs) f g = same_front 1 (escaped bs) (escaped cs) (byte_order bs cs) (decides-escaped bs cs)
decides-plain Strings (Bytes bs) (Bytes cs) f g = same_front 1 (escaped bs) (escaped cs) (byte_order bs cs) (decides-escaped bs cs)
decides-plain Flags (Flag a) (Flag b) f g = same_front 1 (bit a ∷ []) (bit b ∷ []) (nat_cmp (bit a) (bit b)) (decides-byte (bit a) (bit b))
decides-plain Numbers (Int i) (Str cs) f g = absurd g
decides-plain Numbers (Int i) (Bytes cs) f g = absurd g
decides-plain Numbers (Int i) (Flag b) f g = absurd g
decides-plain Texts (Str bs) (Int i) f g = absurd g
decides-plain Texts (Str bs) (Bytes cs) f g = absurd g
decides-plain Texts (Str bs) (Flag b) f g = absurd g
decides-plain Strings (Bytes bs) (Int i) f g = absurd g
decides-plain Strings (Bytes bs) (Str cs) f g = absurd g
decides-plain Strings (Bytes bs) (Flag b) f g = absurd g
decides-plain Flags (Flag a) (Int i) f g = absurd g
decides-plain Flags (Flag a) (Str cs) f g = absurd g
decides-plain Flags (Flag a) (Bytes cs) f g = absurd g
decides-plain Numbers (Str bs) w f g = absurd f
decides-plain Numbers (Bytes bs) w f g = absurd f
decides-plain Numbers (Flag a) w f g = absurd f
decides-plain Texts (Int i) w f g = absurd f
decides-plain Texts (Bytes bs) w f g = absurd f
decides-plain Texts (Flag a) w f g = absurd f
decides-plain Strings (Int i) w f g = absurd f
decides-plain Strings (Str bs) w f g = absurd f
decides-plain Strings (Flag a) w f g = absurd f
decides-plain Flags (Int i) w f g = absurd f
decides-plain Flags (Str bs) w f g = absurd f
decides-plain Flags (Bytes bs) w f g = absurd f

byte_small : (k n : ℕ) → byte_at k n < 256
byte_small zero n = omega arith
byte_small (suc k) n = omega arith

high_first_bytes : (k n : ℕ) → AreBytes (bytes_high_first k n)
high_first_bytes zero n = tt
high_first_bytes (suc k) n = (byte_small k n, high_first_bytes k n)

escaped_bytes : (bs : List ℕ) → AreBytes bs → AreBytes (escaped bs)
escaped_bytes [] f = (omega arith, (omega arith, tt))
escaped_bytes (zero ∷ bs) f = (omega arith, (omega arith, escaped_bytes bs f.1))
escaped_bytes (suc b ∷ bs) f = (f.0, escaped_bytes bs f.1)

pub plain_bytes : (k : Kind) (v : Value) → Fits k v → AreBytes (plain v)
plain_bytes k Null f = (omega arith, tt)
plain_bytes Numbers (Int i) f = (omega arith, high_first_bytes 8 (to_unsigned i))
plain_bytes Texts (Str bs) f = (omega arith, escaped_bytes bs f.1)
plain_bytes Strings (Bytes bs) f = (omega arith, escaped_bytes bs f)
plain_bytes Flags (Flag true) f = (omega arith, (omega arith, tt))
plain_bytes Flags (Flag false) f = (omega arith, (omega arith, tt))
plain_bytes Numbers (Str bs) f = absurd f
plain_bytes Numbers (Bytes bs) f = absurd f
plain_bytes Numbers (Flag b) f = absurd f
plain_bytes Texts (Int i) f = absurd f
plain_bytes Texts (Bytes bs) f = absurd f
plain_bytes Texts (Flag b) f = absurd f
plain_bytes Strings (Int i) f = absurd f
plain_bytes Strings (Str bs) f = absurd f
plain_bytes Strings (Flag b) f = absurd f
plain_bytes Flags (Int i) f = absurd f
plain_bytes Flags (Str bs) f = absurd f
plain_bytes Flags (Bytes bs) f = absurd f

decides-apply_direction : (d : Bool) (p q : List ℕ) (o : Ordering) → AreBytes p → AreBytes q → Decides p q o → Decides (in_direction d p) (in_direction d q) (apply_direction d o)
decides-apply_direction false p q o s t d = d
decides-apply_direction true p q o s t d = decides-complement p q o s t d

-- the law of one column
pub decides-column : (c : KeyPart) (v w : Value) → Fits c.kind v → Fits c.kind w → Decides (column_code c v) (column_code c w) (column_cmp c v w)
decides-column c v w f g = decides-apply_direction c.desc (plain v) (plain w) (value_cmp v w) (plain_bytes c.kind v f) (plain_bytes c.kind w g) (decides-plain c.kind v w f g)

pub decides-tuple : (cs : List KeyPart) (vs ws : List Value) → AreFit cs vs → AreFit cs ws → Decides (tuple_code cs vs) (tuple_code cs ws) (tuple_cmp cs vs ws)
decides-tuple [] [] [] f g = decides-nothing
decides-tuple [] (v ∷ vs) ws f g = absurd f
decides-tuple [] [] (w ∷ ws) f g = absurd g
decides-tuple (c ∷ cs) [] ws f g = absurd f
decides-tuple (c ∷ cs) (v ∷ vs) [] f g = absurd g
decides-tuple (c ∷ cs) (v ∷ vs) (w ∷ ws) f g = decides-append (column_code c v) (column_code c w) (tuple_code cs vs) (tuple_code cs ws) (column_cmp c v w) (tuple_cmp cs vs ws) (decides-column c v w f.0 g.0) (decides-tuple cs vs ws f.1 g.1)

-- one more byte
pub bytes_push : (bs : List ℕ) (b : ℕ) → AreBytes bs → b < 256 → AreBytes (bs ++ b ∷ [])
bytes_push [] b f h = (h, tt)
bytes_push (a ∷ bs) b f h = (f.0, bytes_push bs b f.1 h)
