-- Parts of a buffer, and the LFs in them.
use Rattle.std.proofs.Common.{◌≡◌, ◌∙◌, ℕ, zero, suc, ◌+◌, ◌-◌, ◌<◌, ◌≤◌, ◌==◌, List, [], ◌∷◌, ◌++◌, Contains, refl, sym, ap, subst, get_or, length, take, drop, slice_index, slice_range, arith, take-take, drop-drop, take-add}
use Rattle.std.proofs.lemmas.List.{drop_more, get_or_default}
use Rattle.std.proofs.lemmas.List.Edits.{length-between, get_or-between}
use Rattle.std.proofs.lemmas.Slice.{between_is}
use Rattle.memchr.specs.Find.{Nowhere, Passes, is_byte}
use Rattle.span_command.specs.Texts.{HasNoLf}

-- a part is cut at a place
pub joined : (xs : List ℕ) (i k j : ℕ) → i ≤ k → k ≤ j → slice_range xs i j ≡ slice_range xs i k ++ slice_range xs k j
joined xs i k j p q =
    let long : j - i ≡ (k - i) + (j - k) = omega arith in
    let place : i + (k - i) ≡ k = omega arith in
    ap (λ (n : ℕ). take n (drop i xs)) long
    ∙ take-add (k - i) (j - k) (drop i xs)
    ∙ ap (λ (w : List ℕ). take (k - i) (drop i xs) ++ take (j - k) w) (drop-drop (k - i) i xs ∙ ap (λ (n : ℕ). drop n xs) place)

-- a part begins with its first byte
pub first_byte : (xs : List ℕ) (i j : ℕ) → i < j → j ≤ length xs → slice_range xs i j ≡ slice_index xs i ∷ slice_range xs (i + 1) j
first_byte xs i j p q =
    let long : j - i ≡ suc (j - (i + 1)) = omega arith in
    let within : i < length xs = omega arith in
    ap (λ (n : ℕ). take n (drop i xs)) long ∙ ap (take (suc (j - (i + 1)))) (drop_more xs i 0 within)

-- nothing is between a place and itself
pub nothing : (xs : List ℕ) (i : ℕ) → slice_range xs i i ≡ []
nothing xs i =
    let none : i - i ≡ zero = omega arith in
    ap (λ (n : ℕ). take n (drop i xs)) none

-- how long a part is
pub length_of_range : (xs : List ℕ) (i j : ℕ) → j ≤ length xs → length (slice_range xs i j) ≡ j - i
length_of_range xs i j h = length-between xs i j h

-- two buffers with one front have one part there
pub same_front : (xs ys : List ℕ) (e i j : ℕ) → take e xs ≡ take e ys → j ≤ e → slice_range xs i j ≡ slice_range ys i j
same_front xs ys e i j h q =
    between_is xs i j
    ∙ ap (drop i) (sym (take-take j e xs q) ∙ ap (take j) h ∙ take-take j e ys q)
    ∙ sym (between_is ys i j)

-- no LF is in two lists one after the other
pub none_in_both : (xs ys : List ℕ) → HasNoLf xs → HasNoLf ys → HasNoLf (xs ++ ys)
none_in_both [] ys p q i l e = q i l e
none_in_both (x ∷ xs) ys p q zero l e = p zero (omega arith) e
none_in_both (x ∷ xs) ys p q (suc i) l e = none_in_both xs ys (λ k m. p (suc k) (omega (arith, m))) q i (omega (arith, l)) e

-- the first bytes of a part that a search passed have no LF
none_before : (xs : List ℕ) (m e n : ℕ) → e ≤ length xs → m + n ≤ e → Nowhere (Passes (is_byte 10) (slice_range xs m e)) 0 n → HasNoLf (slice_range xs m (m + n))
none_before xs m e n w h p k l is =
    let long : length (slice_range xs m (m + n)) ≡ (m + n) - m = length-between xs m (m + n) (omega arith) in
    let below : k < n = omega (arith, long, l) in
    let here : get_or (slice_range xs m (m + n)) k 0 ≡ get_or xs (m + k) 0 = get_or-between xs m (m + n) k 0 (omega (arith, below)) in
    let there : get_or (slice_range xs m e) k 0 ≡ get_or xs (m + k) 0 = get_or-between xs m e k 0 (omega (arith, below)) in
    let ten : get_or (slice_range xs m e) k 0 ≡ 10 = there ∙ sym here ∙ is in
    p k (omega arith) below (ap (λ (b : ℕ). b == 10) ten)

-- what was searched grows by what a search passed
pub none_so_far : (xs bytes : List ℕ) (s m e n : ℕ) → bytes ≡ xs → s ≤ m → e ≤ length xs → m + n ≤ e → HasNoLf (slice_range xs s m)
    → Nowhere (Passes (is_byte 10) (slice_range bytes m e)) 0 n → HasNoLf (slice_range xs s (m + n))
none_so_far xs bytes s m e n same o w h before now =
    let passed : Nowhere (Passes (is_byte 10) (slice_range xs m e)) 0 n = subst (λ (ys : List ℕ). Nowhere (Passes (is_byte 10) (slice_range ys m e)) 0 n) same now in
    subst HasNoLf (sym (joined xs s m (m + n) o (omega arith)))
    (none_in_both (slice_range xs s m) (slice_range xs m (m + n)) before (none_before xs m e n w h passed))

-- a search that found nothing passed all
pub none_at_all : (xs bytes : List ℕ) (s m e : ℕ) → bytes ≡ xs → s ≤ m → m ≤ e → e ≤ length xs → HasNoLf (slice_range xs s m)
    → Nowhere (Passes (is_byte 10) (slice_range bytes m e)) 0 (length (slice_range bytes m e)) → HasNoLf (slice_range xs s e)
none_at_all xs bytes s m e same o p w before now =
    let long : length (slice_range bytes m e) ≡ e - m = length-between bytes m e (omega (arith, ap length same)) in
    let passed : Nowhere (Passes (is_byte 10) (slice_range bytes m e)) 0 (e - m) =
    subst (λ (n : ℕ). Nowhere (Passes (is_byte 10) (slice_range bytes m e)) 0 n) long now in
    let place : m + (e - m) ≡ e = omega arith in
    subst (λ (n : ℕ). HasNoLf (slice_range xs s n)) place (none_so_far xs bytes s m e (e - m) same o w (omega arith) before passed)

-- a part is cut at an LF
pub cut_at_lf : (xs : List ℕ) (s m e : ℕ) → s ≤ m → m < e → e ≤ length xs → slice_index xs m ≡ 10
    → slice_range xs s e ≡ slice_range xs s m ++ 10 ∷ slice_range xs (m + 1) e
cut_at_lf xs s m e o l w ten =
    joined xs s m e o (omega arith)
    ∙ ap (λ (w : List ℕ). slice_range xs s m ++ w) (first_byte xs m e l w ∙ ap (λ (b : ℕ). b ∷ slice_range xs (m + 1) e) ten)

-- an LF that is in a list is one of its bytes
pub occurs_in : (front back : List ℕ) → Contains (front ++ 10 ∷ back) 10
occurs_in [] back = (zero, omega arith, refl)
occurs_in (x ∷ front) back =
    let later = occurs_in front back in
    (suc later.0, omega (arith, later.1), later.2)

-- an LF is in no list that has none
pub not_in : (bytes : List ℕ) → HasNoLf bytes → Contains bytes 10 → ⊥
not_in bytes none some = none some.0 some.1 (at_any bytes some.0 some.1 ∙ some.2)
  where
    at_any : (xs : List ℕ) (k : ℕ) → k < length xs → get_or xs k 0 ≡ get_or xs k 10
    at_any xs k l = get_or_default xs k 0 10 l
