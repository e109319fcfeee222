-- Codes are in the order of values.
use Rattle.std.proofs.Common.{◌≡◌, refl, sym, ap, ◌∙◌, ℕ, ℤ, pos, negsuc, zero, suc, ◌+◌, ◌-◌, ◌*◌, ◌<◌, ◌≤◌, ◌^◌, true, false, List, [], ◌∷◌, arith, true≢false, FitsSigned, drop, get_or, nat_lt, nat_eq, subst, get_or-drop, drop-drop}
use Rattle.std.proofs.Math.Nat.{pow-suc}
use Rattle.std.specs.Int.{w64}
use Rattle.std.specs.Ordering.{nat_cmp, int_cmp, bool_cmp, ordering_then}
use Rattle.std.specs.Cmp.Lexicographic.{slice_cmp}
use Rattle.std.specs.declared.cmp.Ordering.{Ordering}
use Rattle.std.specs.declared.cmp.Ordering.TheVariants.{Less, Equal, Greater}
use Rattle.std.proofs.lemmas.Bool.Decides.{nat_tests}
use Rattle.std.proofs.lemmas.Int.{ints}
use Rattle.std.proofs.lemmas.Bool.{eq-eqb}
use Rattle.span_value.specs.declared.value.Value.{Value}
use Rattle.span_value.specs.declared.value.Value.TheVariants.{Null, Int, Str, Bytes, Bool as Flag}
use Rattle.span_value.specs.Orders.{value_order, kind_rank}
use Rattle.span_query.specs.Sorting.{or_next}
use Rattle.span_sorting.specs.Codes.{to_unsigned, with_bytes, code_of, is_exact, AreBytes, IsInRange}
use Rattle.span_value.proofs.Comparisons.{number_less, number_greater, number_equal}
use Rattle.span_value.proofs.Numbers.{unsigned_end}

-- ---- the digits so far

powers_rise : (d n m : ℕ) → m ≡ n + d → 256 ^ n ≤ 256 ^ m
powers_rise zero n m e = let same : m ≡ n = omega (arith, e) in subst (λ (k : ℕ). 256 ^ n ≤ 256 ^ k) (sym same) (omega arith)
powers_rise (suc d) n m e =
    let lower : 256 ^ n ≤ 256 ^ (n + d) = powers_rise d n (n + d) refl in
    let next : m ≡ suc (n + d) = omega (arith, e) in
    let more : 256 ^ n ≤ 256 ^ suc (n + d) = rw (pow-suc 256 (n + d)) (omega (arith, lower)) in
    subst (λ (k : ℕ). 256 ^ n ≤ 256 ^ k) (sym next) more

-- a digit more fits
pub digit_fits : (place code : ℕ) → place < 8 → code < 5 * 256 ^ place → code * 256 + 255 < 2 ^ 128
digit_fits place code below low =
    let most : 256 ^ place ≤ 256 ^ 7 = powers_rise (7 - place) place 7 (omega (arith, below)) in
    let end : 256 ^ 7 ≡ 2 ^ 56 = refl in
    omega (arith, low, most, end)

pub digit_added : (place code b : ℕ) → b < 256 → code < 5 * 256 ^ place → code * 256 + b < 5 * 256 ^ (place + 1)
digit_added place code b small low =
    let next : place + 1 ≡ suc place = omega arith in
    let power : 256 ^ (place + 1) ≡ 256 ^ place * 256 = ap (λ (k : ℕ). 256 ^ k) next ∙ pow-suc 256 place in
    omega (arith, small, low, power)

next_digit : (count code : ℕ) (bytes : List ℕ) → with_bytes (suc count) code bytes ≡ with_bytes count (code * 256 + get_or bytes 0 0) (drop 1 bytes)
next_digit count code [] = ap (λ (c : ℕ). with_bytes count c []) (omega arith)
next_digit count code (b ∷ bytes) = refl

pub digit_read : (place code b : ℕ) (bytes : List ℕ) → place < 8 → b ≡ get_or bytes place 0
    → with_bytes (8 - place) code (drop place bytes) ≡ with_bytes (8 - (place + 1)) (code * 256 + b) (drop (place + 1) bytes)
digit_read place code b bytes below is =
    let left : 8 - place ≡ suc (8 - (place + 1)) = omega (arith, below) in
    let here : get_or (drop place bytes) 0 0 ≡ b = get_or-drop place bytes 0 0 ∙ ap (λ (k : ℕ). get_or bytes k 0) (omega arith) ∙ sym is in
    let rest : drop 1 (drop place bytes) ≡ drop (place + 1) bytes = drop-drop 1 place bytes ∙ ap (λ (k : ℕ). drop k bytes) (omega arith) in
    ap (λ (k : ℕ). with_bytes k code (drop place bytes)) left
    ∙ next_digit (8 - (place + 1)) code (drop place bytes)
    ∙ ap (λ (d : ℕ). with_bytes (8 - (place + 1)) (code * 256 + d) (drop 1 (drop place bytes))) here
    ∙ ap (λ (l : List ℕ). with_bytes (8 - (place + 1)) (code * 256 + b) l) rest

-- ---- numbers

unsigned_order : (i j : ℤ) → FitsSigned w64 i → FitsSigned w64 j → nat_cmp (2 * 2 ^ 64 + to_unsigned i) (2 * 2 ^ 64 + to_unsigned j) ≡ int_cmp i j
unsigned_order (pos m) (pos n) f g = grind (arith, ints, nat_tests)
unsigned_order (pos m) (negsuc n) f g = grind (arith, ints, nat_tests)
unsigned_order (negsuc m) (pos n) f g = grind (arith, ints, nat_tests)
unsigned_order (negsuc m) (negsuc n) f g = grind (arith, ints, nat_tests)

-- ---- strings

-- the least code with these digits
least : (k p q : ℕ) (b : List ℕ) → p ≤ q → with_bytes k p [] ≤ with_bytes k q b
least zero p q b le = le
least (suc k) p q [] le = least k (p * 256) (q * 256) [] (omega (arith, le))
least (suc k) p q (y ∷ b) le = least k (p * 256) (q * 256 + y) b (omega (arith, le))

-- of other digits, the greater ones have the greater code
digits_first : (k p q : ℕ) (a b : List ℕ) → AreBytes a → p < q → with_bytes k p a < with_bytes k q b
digits_first zero p q a b f lt = lt
digits_first (suc k) p q [] [] f lt = digits_first k (p * 256) (q * 256) [] [] tt (omega (arith, lt))
digits_first (suc k) p q [] (y ∷ b) f lt = digits_first k (p * 256) (q * 256 + y) [] b tt (omega (arith, lt))
digits_first (suc k) p q (x ∷ a) [] f lt = digits_first k (p * 256 + x) (q * 256) a [] f.1 (let small : x < 256 = f.0 in omega (arith, lt, small))
digits_first (suc k) p q (x ∷ a) (y ∷ b) f lt = digits_first k (p * 256 + x) (q * 256 + y) a b f.1 (let small : x < 256 = f.0 in omega (arith, lt, small))

not_greater : (a b : ℕ) → a ≤ b → or_next (nat_cmp a b) Less ≡ Less
not_greater a b le = grind (arith, nat_tests)

not_less : (a b : ℕ) → b ≤ a → or_next (nat_cmp a b) Greater ≡ Greater
not_less a b le = grind (arith, nat_tests)

-- the first of the bytes that are left, with the digits up to it
first_byte : (k p q x y : ℕ) (a b : List ℕ) → AreBytes a → AreBytes b → (o : Ordering) → nat_cmp x y ≡ o
    → (x < y → p < q) → (y < x → q < p) → (x ≡ y → p ≡ q)
    → or_next (nat_cmp (with_bytes k p a) (with_bytes k p b)) (slice_cmp nat_cmp a b) ≡ slice_cmp nat_cmp a b
    → or_next (nat_cmp (with_bytes k p a) (with_bytes k q b)) (ordering_then (nat_cmp x y) (slice_cmp nat_cmp a b)) ≡ ordering_then (nat_cmp x y) (slice_cmp nat_cmp a b)
first_byte k p q x y a b f g Less e less more same rest =
    let lt : x < y = grind (arith, nat_tests, e) in
    let codes : nat_cmp (with_bytes k p a) (with_bytes k q b) ≡ Less = number_less (with_bytes k p a) (with_bytes k q b) (digits_first k p q a b f (less lt)) in
    rw (e, codes) refl
first_byte k p q x y a b f g Greater e less more same rest =
    let lt : y < x = grind (arith, nat_tests, e) in
    let codes : nat_cmp (with_bytes k p a) (with_bytes k q b) ≡ Greater = number_greater (with_bytes k p a) (with_bytes k q b) (digits_first k q p b a g (more lt)) in
    rw (e, codes) refl
first_byte k p q x y a b f g Equal e less more same rest =
    let is : x ≡ y = grind (arith, nat_tests, e) in
    let digits : q ≡ p = sym (same is) in
    rw (e, digits) rest

-- what the digits of strings say of their order
bytes_agree : (k p : ℕ) (a b : List ℕ) → AreBytes a → AreBytes b
    → or_next (nat_cmp (with_bytes k p a) (with_bytes k p b)) (slice_cmp nat_cmp a b) ≡ slice_cmp nat_cmp a b
bytes_agree zero p a b f g = ap (λ o. or_next o (slice_cmp nat_cmp a b)) (number_equal p p refl)
bytes_agree (suc k) p [] [] f g = ap (λ o. or_next o Equal) (number_equal (with_bytes k (p * 256) []) (with_bytes k (p * 256) []) refl)
bytes_agree (suc k) p [] (y ∷ b) f g = not_greater (with_bytes k (p * 256) []) (with_bytes k (p * 256 + y) b) (least k (p * 256) (p * 256 + y) b (omega arith))
bytes_agree (suc k) p (x ∷ a) [] f g = not_less (with_bytes k (p * 256 + x) a) (with_bytes k (p * 256) []) (least k (p * 256) (p * 256 + x) a (omega arith))
bytes_agree (suc k) p (x ∷ a) (y ∷ b) f g =
    first_byte k (p * 256 + x) (p * 256 + y) x y a b f.1 g.1 (nat_cmp x y) refl (λ lt. omega (arith, lt)) (λ lt. omega (arith, lt)) (λ e. ap (λ (z : ℕ). p * 256 + z) e) (bytes_agree k (p * 256 + x) a b f.1 g.1)

-- ---- values

-- the code is between those of the kinds before and after
pub record Within (rank code : ℕ) : Type 0 where
  pub least : rank * 2 ^ 64 ≤ code
  pub end : code < rank * 2 ^ 64 + 2 ^ 64

within : (v : Value) → IsInRange v → Within (kind_rank v) (code_of v)
within Null f = record { least = omega arith; end = omega arith }
within (Flag false) f = record { least = omega arith; end = omega arith }
within (Flag true) f = record { least = omega arith; end = omega arith }
within (Int i) f = let low : to_unsigned i < 2 ^ 64 = unsigned_end i f in record { least = omega (arith, low); end = omega (arith, low) }
within (Str text) f = record { least = least 8 3 3 text (omega arith); end = digits_first 8 3 4 text [] f (omega arith) }
within (Bytes bytes) f = record { least = least 8 4 4 bytes (omega arith); end = digits_first 8 4 5 bytes [] f (omega arith) }

pub code_end : (v : Value) → IsInRange v → code_of v ≤ 5 * 2 ^ 64
code_end Null f = omega arith
code_end (Flag false) f = omega arith
code_end (Flag true) f = omega arith
code_end (Int i) f = let low : to_unsigned i < 2 ^ 64 = unsigned_end i f in omega (arith, low)
code_end (Str text) f = let low : with_bytes 8 3 text < 4 * 2 ^ 64 = digits_first 8 3 4 text [] f (omega arith) in omega (arith, low)
code_end (Bytes bytes) f = let low : with_bytes 8 4 bytes < 5 * 2 ^ 64 = digits_first 8 4 5 bytes [] f (omega arith) in omega (arith, low)

-- values of two kinds are in the order of their codes
ranks_first : (m n c d : ℕ) → Within m c → Within n d → m < n → c < d
ranks_first m n c d f g lt = let a : c < m * 2 ^ 64 + 2 ^ 64 = f.end in let b : n * 2 ^ 64 ≤ d = g.least in omega (arith, lt, a, b)

rank_order : (m n c d : ℕ) → Within m c → Within n d → (m ≡ n → ⊥) → nat_cmp c d ≡ nat_cmp m n
rank_order m n c d f g apart = by_rank (nat_cmp m n) refl
  where
    by_rank : (o : Ordering) → nat_cmp m n ≡ o → nat_cmp c d ≡ o
    by_rank Less e = number_less c d (ranks_first m n c d f g (grind (arith, nat_tests, e)))
    by_rank Greater e = number_greater c d (ranks_first n m d c g f (grind (arith, nat_tests, e)))
    by_rank Equal e = absurd (apart (grind (arith, nat_tests, e)))

apart_order : (v w : Value) → IsInRange v → IsInRange w → nat_eq (kind_rank v) (kind_rank w) ≡ false → nat_cmp (code_of v) (code_of w) ≡ nat_cmp (kind_rank v) (kind_rank w)
apart_order v w f g e =
    rank_order (kind_rank v) (kind_rank w) (code_of v) (code_of w) (within v f) (within w g) (λ same. absurd (true≢false (sym (eq-eqb (kind_rank v) (kind_rank w) same) ∙ e)))

twice : (o : Ordering) → or_next o o ≡ o
twice Less = refl
twice Equal = refl
twice Greater = refl

agree_if_same : (c d : ℕ) (o : Ordering) → nat_cmp c d ≡ o → or_next (nat_cmp c d) o ≡ o
agree_if_same c d o e = ap (λ n. or_next n o) e ∙ twice o

apart_agrees : (v w : Value) → IsInRange v → IsInRange w → nat_eq (kind_rank v) (kind_rank w) ≡ false
    → or_next (nat_cmp (code_of v) (code_of w)) (nat_cmp (kind_rank v) (kind_rank w)) ≡ nat_cmp (kind_rank v) (kind_rank w)
apart_agrees v w f g e = agree_if_same (code_of v) (code_of w) (nat_cmp (kind_rank v) (kind_rank w)) (apart_order v w f g e)

-- of two exact values, the codes are in their order
pub exact_order : (v w : Value) → IsInRange v → IsInRange w → is_exact v ≡ true → is_exact w ≡ true → nat_cmp (code_of v) (code_of w) ≡ value_order v w
exact_order Null Null f g a b = refl
exact_order Null (Flag c) f g a b = apart_order Null (Flag c) f g refl
exact_order Null (Int j) f g a b = apart_order Null (Int j) f g refl
exact_order (Flag c) Null f g a b = apart_order (Flag c) Null f g refl
exact_order (Flag false) (Flag false) f g a b = refl
exact_order (Flag false) (Flag true) f g a b = refl
exact_order (Flag true) (Flag false) f g a b = refl
exact_order (Flag true) (Flag true) f g a b = refl
exact_order (Flag c) (Int j) f g a b = apart_order (Flag c) (Int j) f g refl
exact_order (Int i) Null f g a b = apart_order (Int i) Null f g refl
exact_order (Int i) (Flag c) f g a b = apart_order (Int i) (Flag c) f g refl
exact_order (Int i) (Int j) f g a b = unsigned_order i j f g
exact_order v (Str t) f g a b = absurd (true≢false (sym b))
exact_order v (Bytes t) f g a b = absurd (true≢false (sym b))
exact_order (Str t) w f g a b = absurd (true≢false (sym a))
exact_order (Bytes t) w f g a b = absurd (true≢false (sym a))

-- of two values, the codes are in their order or the same
pub code_agrees : (v w : Value) → IsInRange v → IsInRange w → or_next (nat_cmp (code_of v) (code_of w)) (value_order v w) ≡ value_order v w
code_agrees (Str a) (Str b) f g = bytes_agree 8 3 a b f g
code_agrees (Bytes a) (Bytes b) f g = bytes_agree 8 4 a b f g
code_agrees (Int i) (Int j) f g = agree_if_same (code_of (Int i)) (code_of (Int j)) (int_cmp i j) (unsigned_order i j f g)
code_agrees (Flag c) (Flag d) f g = agree_if_same (code_of (Flag c)) (code_of (Flag d)) (bool_cmp c d) (exact_order (Flag c) (Flag d) f g refl refl)
code_agrees Null Null f g = refl
code_agrees Null (Flag c) f g = apart_agrees Null (Flag c) f g refl
code_agrees Null (Int j) f g = apart_agrees Null (Int j) f g refl
code_agrees Null (Str b) f g = apart_agrees Null (Str b) f g refl
code_agrees Null (Bytes b) f g = apart_agrees Null (Bytes b) f g refl
code_agrees (Flag c) Null f g = apart_agrees (Flag c) Null f g refl
code_agrees (Flag c) (Int j) f g = apart_agrees (Flag c) (Int j) f g refl
code_agrees (Flag c) (Str b) f g = apart_agrees (Flag c) (Str b) f g refl
code_agrees (Flag c) (Bytes b) f g = apart_agrees (Flag c) (Bytes b) f g refl
code_agrees (Int i) Null f g = apart_agrees (Int i) Null f g refl
code_agrees (Int i) (Flag c) f g = apart_agrees (Int i) (Flag c) f g refl
code_agrees (Int i) (Str b) f g = apart_agrees (Int i) (Str b) f g refl
code_agrees (Int i) (Bytes b) f g = apart_agrees (Int i) (Bytes b) f g refl
code_agrees (Str a) Null f g = apart_agrees (Str a) Null f g refl
code_agrees (Str a) (Flag c) f g = apart_agrees (Str a) (Flag c) f g refl
code_agrees (Str a) (Int j) f g = apart_agrees (Str a) (Int j) f g refl
code_agrees (Str a) (Bytes b) f g = apart_agrees (Str a) (Bytes b) f g refl
code_agrees (Bytes a) Null f g = apart_agrees (Bytes a) Null f g refl
code_agrees (Bytes a) (Flag c) f g = apart_agrees (Bytes a) (Flag c) f g refl
code_agrees (Bytes a) (Int j) f g = apart_agrees (Bytes a) (Int j) f g refl
code_agrees (Bytes a) (Str b) f g = apart_agrees (Bytes a) (Str b) f g refl

-- values with the same code are both exact or both not
rank_of : (m n c d : ℕ) → Within m c → Within n d → c ≡ d → m ≡ n
rank_of m n c d f g e =
    let a : m * 2 ^ 64 ≤ c = f.least in let b : c < m * 2 ^ 64 + 2 ^ 64 = f.end in
    let h : n * 2 ^ 64 ≤ d = g.least in let k : d < n * 2 ^ 64 + 2 ^ 64 = g.end in
    omega (arith, e, a, b, h, k)

exact_by_rank : (v : Value) → is_exact v ≡ nat_lt (kind_rank v) 3
exact_by_rank Null = refl
exact_by_rank (Flag c) = refl
exact_by_rank (Int i) = refl
exact_by_rank (Str t) = refl
exact_by_rank (Bytes t) = refl

pub exact_same : (v w : Value) → IsInRange v → IsInRange w → code_of v ≡ code_of w → is_exact v ≡ is_exact w
exact_same v w f g e =
    exact_by_rank v ∙ ap (λ (n : ℕ). nat_lt n 3) (rank_of (kind_rank v) (kind_rank w) (code_of v) (code_of w) (within v f) (within w g) e) ∙ sym (exact_by_rank w)
