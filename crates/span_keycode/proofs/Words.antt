-- Words of eight bytes, compared in the place of their bytes.
use Rattle.std.proofs.Common.{◌≡◌, ℕ, ◌+◌, ◌-◌, ◌<◌, ◌≤◌, ◌^◌, suc, List, [], ◌∷◌, ◌++◌, ◌⊎◌, inl, inr, refl, sym, ◌∙◌, ap, arith, length, min, take, drop}
use Rattle.std.specs.Ordering.{nat_cmp, ordering_then}
use Rattle.std.specs.declared.cmp.Ordering.{Ordering}
use Rattle.std.specs.Int.{to_be_bytes, w64}
use Rattle.std.proofs.lemmas.Bool.{cases_order, cases_lt}
use Rattle.std.proofs.Math.Nat.{min-eq_left, min-eq_right}
use Rattle.std.proofs.lemmas.Bool.Decides.{nat_tests}
use Rattle.std.proofs.lemmas.List.{take-append-drop, take-take, length-drop}
use Rattle.std.proofs.Math.Seq.{take-add}
use Rattle.span_keycode.specs.Order.{byte_order, Decides}
use Rattle.span_value.proofs.Comparisons.{number_less, number_greater, number_equal}
use Rattle.span_keycode.proofs.Codes.{decides-number}
use Rattle.span_keycode.proofs.Comparing.{front_same}

-- lists of one beginning compare as what is after it
order_past : (a b : List ℕ) (k : ℕ) → take k a ≡ take k b → byte_order a b ≡ byte_order (drop k a) (drop k b)
order_past a b k same =
    sym (ap (λ (z : List ℕ). byte_order z b) (take-append-drop k a))
    ∙ sym (ap (λ (z : List ℕ). byte_order (take k a ++ drop k a) z) (take-append-drop k b))
    ∙ ap (λ (z : List ℕ). byte_order (z ++ drop k a) (take k b ++ drop k b)) same
    ∙ front_same (take k b) (drop k a) (drop k b)

unequal_first : (m n : ℕ) (o : Ordering) → ¬ (m ≡ n) → ordering_then (nat_cmp m n) o ≡ nat_cmp m n
unequal_first m n o differ = elim (cases_order m n) [
  | inl e ↦ absurd (differ e)
  | inr (inl lt) ↦ rw (number_less m n lt) refl
  | inr (inr gt) ↦ rw (number_greater m n gt) refl
]

split : (x y : List ℕ) (m n : ℕ) → to_be_bytes w64 m ≡ take 8 x → to_be_bytes w64 n ≡ take 8 y
    → byte_order x y ≡ byte_order (to_be_bytes w64 m ++ drop 8 x) (to_be_bytes w64 n ++ drop 8 y)
split x y m n left right =
    sym (ap (λ (z : List ℕ). byte_order z y) (take-append-drop 8 x))
    ∙ sym (ap (λ (z : List ℕ). byte_order (take 8 x ++ drop 8 x) z) (take-append-drop 8 y))
    ∙ sym (ap (λ (z : List ℕ). byte_order (z ++ drop 8 x) (take 8 y ++ drop 8 y)) left)
    ∙ sym (ap (λ (z : List ℕ). byte_order (to_be_bytes w64 m ++ drop 8 x) (z ++ drop 8 y)) right)

-- words that are not equal decide
pub words_decide : (a b : List ℕ) (k m n : ℕ) → take k a ≡ take k b → m < 2 ^ 64 → n < 2 ^ 64
    → to_be_bytes w64 m ≡ take 8 (drop k a) → to_be_bytes w64 n ≡ take 8 (drop k b) → ¬ (m ≡ n) → nat_cmp m n ≡ byte_order a b
words_decide a b k m n same low_m low_n left right differ =
    let x = drop k a in
    let y = drop k b in
    let d : Decides (to_be_bytes w64 m) (to_be_bytes w64 n) (nat_cmp m n) = decides-number m n low_m low_n in
    sym (order_past a b k same ∙ split x y m n left right ∙ d.at (drop 8 x) (drop 8 y) ∙ unequal_first m n (byte_order (drop 8 x) (drop 8 y)) differ)

-- and equal ones lengthen the beginning
pub beginning_grows : (a b : List ℕ) (k m n : ℕ) → take k a ≡ take k b
    → to_be_bytes w64 m ≡ take 8 (drop k a) → to_be_bytes w64 n ≡ take 8 (drop k b) → m ≡ n → take (k + 8) a ≡ take (k + 8) b
beginning_grows a b k m n same left right equal =
    let words : take 8 (drop k a) ≡ take 8 (drop k b) = sym left ∙ ap (to_be_bytes w64) equal ∙ right in
    take-add k 8 a ∙ ap (λ (z : List ℕ). z ++ take 8 (drop k a)) same ∙ ap (λ (z : List ℕ). take k b ++ z) words ∙ sym (take-add k 8 b)

-- a beginning is also that of fewer bytes
pub beginning_of_fewer : (a b : List ℕ) (k j : ℕ) → k ≤ j → take j a ≡ take j b → take k a ≡ take k b
beginning_of_fewer a b k j less same =
    sym (take-take k j a less) ∙ ap (take k) same ∙ take-take k j b less

ends_here : (x y : List ℕ) → (length x ≡ 0) ⊎ (length y ≡ 0) → byte_order x y ≡ nat_cmp (length x) (length y)
ends_here [] [] e = sym (number_equal 0 0 refl)
ends_here [] (b ∷ y) e = sym (number_less 0 (suc (length y)) (omega arith))
ends_here (a ∷ x) [] e = sym (number_greater (suc (length x)) 0 (omega arith))
ends_here (a ∷ x) (b ∷ y) (inl e) = absurd (let l : suc (length x) ≡ 0 = e in omega arith)
ends_here (a ∷ x) (b ∷ y) (inr e) = absurd (let l : suc (length y) ≡ 0 = e in omega arith)

pub lengths_past : (k m n : ℕ) → k ≤ m → k ≤ n → nat_cmp (m - k) (n - k) ≡ nat_cmp m n
lengths_past k m n low_m low_n = grind (arith, nat_tests)

-- where one list is the beginning of the other, their lengths decide
pub lengths_decide : (a b : List ℕ) (k : ℕ) → k ≤ length a → k ≤ length b → ((length a ≤ k) ⊎ (length b ≤ k)) → take k a ≡ take k b
    → nat_cmp (length a) (length b) ≡ byte_order a b
lengths_decide a b k low_a low_b ends same =
    let short : (length (drop k a) ≡ 0) ⊎ (length (drop k b) ≡ 0) = elim ends [
      | inl e ↦ inl (rw (length-drop k a) (omega arith))
      | inr e ↦ inr (rw (length-drop k b) (omega arith))
    ] in
    let past : byte_order (drop k a) (drop k b) ≡ nat_cmp (length a - k) (length b - k) =
    rw (length-drop k a, length-drop k b) at (ends_here (drop k a) (drop k b) short) in
    sym (order_past a b k same ∙ past ∙ lengths_past k (length a) (length b) low_a low_b)

-- the lesser of two numbers is one of them
pub least : (k m n : ℕ) → k ≡ min m n → (k ≤ m) × (k ≤ n) × ((m ≤ k) ⊎ (n ≤ k))
least k m n e = elim (cases_lt m n) [
  | inl lt ↦ (let f : k ≡ m = e ∙ min-eq_left (omega (arith, lt)) in (omega (arith, f), omega (arith, f, lt), inl (omega (arith, f))))
  | inr ge ↦ (let f : k ≡ n = e ∙ min-eq_right ge in (omega (arith, f, ge), omega (arith, f), inr (omega (arith, f))))
]
