-- The order of strings by characters is the order of their bytes.
use Rattle.std.proofs.Common.{◌≡◌, ℕ, ◌+◌, ◌*◌, ◌/◌, ◌%◌, ◌<◌, ◌≤◌, List, [], ◌∷◌, ◌++◌, refl, sym, ◌∙◌, ap, arith, subst, inl, inr, ◌⊎◌}
use Rattle.std.specs.Ordering.{nat_cmp, ordering_then}
use Rattle.std.specs.Cmp.Lexicographic.{slice_cmp}
use Rattle.std.specs.declared.cmp.Ordering.{Ordering}
use Rattle.std.specs.declared.cmp.Ordering.TheVariants.{Less, Greater}
use Rattle.std.specs.Str.{IsUtf8, chars}
use Rattle.std.proofs.Math.Utf8.{encode, encodes}
use Rattle.std.proofs.lemmas.Bool.{cases_lt}
use Rattle.std.proofs.lemmas.Bool.Decides.{nat_tests}
use Rattle.std.proofs.lemmas.Str.{encodes-chars, encode_ascii}
use Rattle.span_keycode.specs.Order.{byte_order, Decides}
use Rattle.span_keycode.proofs.Order.{then_assoc, decides-byte, decides-less, decides-greater}
use Rattle.span_value.proofs.Comparisons.{number_less, number_greater}
use Rattle.span_keycode.proofs.Codes.{decides-cons, two_digits}

two_bytes : (c : ℕ) → 128 ≤ c → c < 2048 → encode c ≡ (192 + c / 64) ∷ (128 + c % 64) ∷ []
unfolding encode
two_bytes c h k = grind (arith, nat_tests)

three_bytes : (c : ℕ) → 2048 ≤ c → c < 65536 → encode c ≡ (224 + c / 4096) ∷ (128 + c / 64 % 64) ∷ (128 + c % 64) ∷ []
unfolding encode
three_bytes c h k = grind (arith, nat_tests)

four_bytes : (c : ℕ) → 65536 ≤ c → encode c ≡ (240 + c / 262144) ∷ (128 + c / 4096 % 64) ∷ (128 + c / 64 % 64) ∷ (128 + c % 64) ∷ []
unfolding encode
four_bytes c h = grind (arith, nat_tests)

same_cmp : (a b c d : ℕ) → a ≡ c → b ≡ d → nat_cmp a b ≡ nat_cmp c d
same_cmp a b c d e f = cc

shifted : (k a b : ℕ) → nat_cmp (k + a) (k + b) ≡ nat_cmp a b
shifted k a b = grind (arith, nat_tests)

-- numbers by their last digit, in base 64, and the others
by_digit : (c d : ℕ) → ordering_then (nat_cmp (c / 64) (d / 64)) (nat_cmp (c % 64) (d % 64)) ≡ nat_cmp c d
by_digit c d =
    sym (two_digits 64 (c / 64) (d / 64) (c % 64) (d % 64) (omega arith) (omega arith))
    ∙ same_cmp (c / 64 * 64 + c % 64) (d / 64 * 64 + d % 64) c d (omega arith) (omega arith)

decides_shifted : (k a b : ℕ) (p q : List ℕ) (o : Ordering) → Decides p q o → Decides ((k + a) ∷ p) ((k + b) ∷ q) (ordering_then (nat_cmp a b) o)
decides_shifted k a b p q o d =
    let P : Ordering → Type 0 = λ r. Decides ((k + a) ∷ p) ((k + b) ∷ q) (ordering_then r o) in subst P (shifted k a b) (decides-cons (k + a) (k + b) p q o d)

decides_last : (c d : ℕ) → Decides ((128 + c % 64) ∷ []) ((128 + d % 64) ∷ []) (nat_cmp (c % 64) (d % 64))
decides_last c d = let P : Ordering → Type 0 = λ r. Decides ((128 + c % 64) ∷ []) ((128 + d % 64) ∷ []) r in subst P (shifted 128 (c % 64) (d % 64)) (decides-byte (128 + c % 64) (128 + d % 64))

decides_two : (k c d : ℕ) → Decides ((k + c / 64) ∷ (128 + c % 64) ∷ []) ((k + d / 64) ∷ (128 + d % 64) ∷ []) (nat_cmp c d)
decides_two k c d =
    let P : Ordering → Type 0 = λ r. Decides ((k + c / 64) ∷ (128 + c % 64) ∷ []) ((k + d / 64) ∷ (128 + d % 64) ∷ []) r in
    subst P (by_digit c d) (decides_shifted k (c / 64) (d / 64) _ _ _ (decides_last c d))

decides_three : (k c d : ℕ) → Decides ((k + c / 4096) ∷ (128 + c / 64 % 64) ∷ (128 + c % 64) ∷ []) ((k + d / 4096) ∷ (128 + d / 64 % 64) ∷ (128 + d % 64) ∷ []) (nat_cmp c d)
decides_three k c d =
    let x = (128 + c / 64 % 64) ∷ (128 + c % 64) ∷ [] in
    let y = (128 + d / 64 % 64) ∷ (128 + d % 64) ∷ [] in
    let P : Ordering → Type 0 = λ r. Decides ((k + c / 4096) ∷ x) ((k + d / 4096) ∷ y) r in
    let mid = nat_cmp (c / 64 % 64) (d / 64 % 64) in
    let last = nat_cmp (c % 64) (d % 64) in
    let order : ordering_then (nat_cmp (c / 4096) (d / 4096)) (ordering_then mid last) ≡ nat_cmp c d =
    then_assoc (nat_cmp (c / 4096) (d / 4096)) mid last
    ∙ ap (λ (o : Ordering). ordering_then (ordering_then o mid) last) (same_cmp (c / 4096) (d / 4096) (c / 64 / 64) (d / 64 / 64) (omega arith) (omega arith))
    ∙ ap (λ (o : Ordering). ordering_then o last) (by_digit (c / 64) (d / 64)) ∙ by_digit c d in
    subst P order (decides_shifted k (c / 4096) (d / 4096) x y (ordering_then mid last) (decides_shifted 128 (c / 64 % 64) (d / 64 % 64) _ _ last (decides_last c d)))

decides_four : (k c d : ℕ) → Decides ((k + c / 262144) ∷ (128 + c / 4096 % 64) ∷ (128 + c / 64 % 64) ∷ (128 + c % 64) ∷ []) ((k + d / 262144) ∷ (128 + d / 4096 % 64) ∷ (128 + d / 64 % 64) ∷ (128 + d % 64) ∷ []) (nat_cmp c d)
decides_four k c d =
    let x = (128 + c / 4096 % 64) ∷ (128 + c / 64 % 64) ∷ (128 + c % 64) ∷ [] in
    let y = (128 + d / 4096 % 64) ∷ (128 + d / 64 % 64) ∷ (128 + d % 64) ∷ [] in
    let P : Ordering → Type 0 = λ r. Decides ((k + c / 262144) ∷ x) ((k + d / 262144) ∷ y) r in
    let high = nat_cmp (c / 4096 % 64) (d / 4096 % 64) in
    let mid = nat_cmp (c / 64 % 64) (d / 64 % 64) in
    let last = nat_cmp (c % 64) (d % 64) in
    let top : ordering_then (nat_cmp (c / 262144) (d / 262144)) high ≡ nat_cmp (c / 64 / 64) (d / 64 / 64) =
    ap (λ (o : Ordering). ordering_then o high) (same_cmp (c / 262144) (d / 262144) (c / 4096 / 64) (d / 4096 / 64) (omega arith) (omega arith))
    ∙ by_digit (c / 4096) (d / 4096) ∙ same_cmp (c / 4096) (d / 4096) (c / 64 / 64) (d / 64 / 64) (omega arith) (omega arith) in
    let order : ordering_then (nat_cmp (c / 262144) (d / 262144)) (ordering_then high (ordering_then mid last)) ≡ nat_cmp c d =
    then_assoc (nat_cmp (c / 262144) (d / 262144)) high (ordering_then mid last)
    ∙ ap (λ (o : Ordering). ordering_then o (ordering_then mid last)) top
    ∙ then_assoc (nat_cmp (c / 64 / 64) (d / 64 / 64)) mid last
    ∙ ap (λ (o : Ordering). ordering_then o last) (by_digit (c / 64) (d / 64)) ∙ by_digit c d in
    subst P order (decides_shifted k (c / 262144) (d / 262144) x y (ordering_then high (ordering_then mid last))
    (decides_shifted 128 (c / 4096 % 64) (d / 4096 % 64) _ _ (ordering_then mid last) (decides_shifted 128 (c / 64 % 64) (d / 64 % 64) _ _ last (decides_last c d))))

-- characters of different lengths
lower : (c d h k : ℕ) (t u : List ℕ) → encode c ≡ h ∷ t → encode d ≡ k ∷ u → c < d → h < k → Decides (encode c) (encode d) (nat_cmp c d)
lower c d h k t u e f l m =
    let less = number_less c d l in rw (e, f, less) (decides-less h k t u (number_less h k m))

upper : (c d h k : ℕ) (t u : List ℕ) → encode c ≡ h ∷ t → encode d ≡ k ∷ u → d < c → k < h → Decides (encode c) (encode d) (nat_cmp c d)
upper c d h k t u e f l m =
    let more = number_greater c d l in rw (e, f, more) (decides-greater h k t u (number_greater h k m))

length_class : (c : ℕ) → (c < 128) ⊎ ((128 ≤ c × (c < 2048)) ⊎ ((2048 ≤ c × (c < 65536)) ⊎ (65536 ≤ c)))
length_class c = elim (cases_lt c 128) [
  | inl a ↦ inl a
  | inr a ↦ elim (cases_lt c 2048) [
    | inl b ↦ inr (inl (a, b))
    | inr b ↦ elim (cases_lt c 65536) [ inl e ↦ inr (inr (inl (b, e))) | inr e ↦ inr (inr (inr e)) ]
  ]
]

both_same : (c d : ℕ) (x y : List ℕ) → encode c ≡ x → encode d ≡ y → Decides x y (nat_cmp c d) → Decides (encode c) (encode d) (nat_cmp c d)
both_same c d x y e f p = rw (e, f) p

decides-character : (c d : ℕ) → Decides (encode c) (encode d) (nat_cmp c d)
decides-character c d = elim (length_class c) [
  | inl a ↦ elim (length_class d) [
    | inl b ↦ both_same c d _ _ (encode_ascii c a) (encode_ascii d b) (decides-byte c d)
    | inr (inl b) ↦ lower c d _ _ _ _ (encode_ascii c a) (two_bytes d b.0 b.1) (omega arith) (omega arith)
    | inr (inr (inl b)) ↦ lower c d _ _ _ _ (encode_ascii c a) (three_bytes d b.0 b.1) (omega arith) (omega arith)
    | inr (inr (inr b)) ↦ lower c d _ _ _ _ (encode_ascii c a) (four_bytes d b) (omega arith) (omega arith)
  ]
  | inr (inl a) ↦ elim (length_class d) [
    | inl b ↦ upper c d _ _ _ _ (two_bytes c a.0 a.1) (encode_ascii d b) (omega arith) (omega arith)
    | inr (inl b) ↦ both_same c d _ _ (two_bytes c a.0 a.1) (two_bytes d b.0 b.1) (decides_two 192 c d)
    | inr (inr (inl b)) ↦ lower c d _ _ _ _ (two_bytes c a.0 a.1) (three_bytes d b.0 b.1) (omega arith) (omega arith)
    | inr (inr (inr b)) ↦ lower c d _ _ _ _ (two_bytes c a.0 a.1) (four_bytes d b) (omega arith) (omega arith)
  ]
  | inr (inr (inl a)) ↦ elim (length_class d) [
    | inl b ↦ upper c d _ _ _ _ (three_bytes c a.0 a.1) (encode_ascii d b) (omega arith) (omega arith)
    | inr (inl b) ↦ upper c d _ _ _ _ (three_bytes c a.0 a.1) (two_bytes d b.0 b.1) (omega arith) (omega arith)
    | inr (inr (inl b)) ↦ both_same c d _ _ (three_bytes c a.0 a.1) (three_bytes d b.0 b.1) (decides_three 224 c d)
    | inr (inr (inr b)) ↦ lower c d _ _ _ _ (three_bytes c a.0 a.1) (four_bytes d b) (omega arith) (omega arith)
  ]
  | inr (inr (inr a)) ↦ elim (length_class d) [
    | inl b ↦ upper c d _ _ _ _ (four_bytes c a) (encode_ascii d b) (omega arith) (omega arith)
    | inr (inl b) ↦ upper c d _ _ _ _ (four_bytes c a) (two_bytes d b.0 b.1) (omega arith) (omega arith)
    | inr (inr (inl b)) ↦ upper c d _ _ _ _ (four_bytes c a) (three_bytes d b.0 b.1) (omega arith) (omega arith)
    | inr (inr (inr b)) ↦ both_same c d _ _ (four_bytes c a) (four_bytes d b) (decides_four 240 c d)
  ]
]

some_bytes : (c : ℕ) (rest : List ℕ) → (byte_order [] (encode c ++ rest) ≡ Less) × (byte_order (encode c ++ rest) [] ≡ Greater)
some_bytes c rest = elim (length_class c) [
  | inl a ↦ (let e = encode_ascii c a in rw e (refl, refl))
  | inr (inl a) ↦ (let e = two_bytes c a.0 a.1 in rw e (refl, refl))
  | inr (inr (inl a)) ↦ (let e = three_bytes c a.0 a.1 in rw e (refl, refl))
  | inr (inr (inr a)) ↦ (let e = four_bytes c a in rw e (refl, refl))
]

encodings_in_order : (cs ds : List ℕ) → byte_order (encodes cs) (encodes ds) ≡ slice_cmp nat_cmp cs ds
encodings_in_order [] [] = refl
encodings_in_order [] (d ∷ ds) = (some_bytes d (encodes ds)).0
encodings_in_order (c ∷ cs) [] = (some_bytes c (encodes cs)).1
encodings_in_order (c ∷ cs) (d ∷ ds) = (decides-character c d).at (encodes cs) (encodes ds) ∙ ap (ordering_then (nat_cmp c d)) (encodings_in_order cs ds)

-- strings compare by their bytes as by their characters
pub texts_in_order : (bs cs : List ℕ) → IsUtf8 bs → IsUtf8 cs → byte_order bs cs ≡ slice_cmp nat_cmp (chars bs) (chars cs)
texts_in_order bs cs t u =
    ap (λ (xs : List ℕ). byte_order xs cs) (sym (encodes-chars bs t)) ∙ ap (byte_order (encodes (chars bs))) (sym (encodes-chars cs u)) ∙ encodings_in_order (chars bs) (chars cs)
