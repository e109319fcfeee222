-- The first bytes after all that begin with some.
use Rattle.std.proofs.Common.{◌≡◌, ℕ, zero, suc, ◌+◌, ◌-◌, ◌<◌, ◌≤◌, List, [], ◌∷◌, ◌++◌, refl, ◌∙◌, ap, arith, length, take, get_or, true}
use Rattle.std.specs.Prelude.{nat_lt}
use Rattle.std.proofs.lemmas.Bool.Decides.{nat_tests}
use Rattle.span_keycode.specs.Ranges.{in_front, next_after}

in_front_some : (x : ℕ) (ys : List ℕ) (z : ℕ) → in_front x (ys ++ z ∷ []) ≡ x ∷ (ys ++ z ∷ [])
in_front_some x [] z = refl
in_front_some x (y ∷ ys) z = refl

-- a byte 255 at the end is left out
after_full : (xs : List ℕ) → next_after (xs ++ 255 ∷ []) ≡ next_after xs
after_full [] = refl
after_full (x ∷ xs) = ap (in_front x) (after_full xs)

-- another byte at the end grows by 1
after_grown : (xs : List ℕ) (b : ℕ) → b < 255 → next_after (xs ++ b ∷ []) ≡ xs ++ (b + 1) ∷ []
after_grown [] b h = let e : nat_lt b 255 ≡ true = grind (arith, nat_tests) in rw e refl
after_grown (x ∷ xs) b h = ap (in_front x) (after_grown xs b h) ∙ in_front_some x xs (b + 1)

taken : (cs : List ℕ) (k : ℕ) → k < length cs → take (suc k) cs ≡ take k cs ++ get_or cs k 0 ∷ []
taken [] k h = absurd (let l : k < 0 = h in omega arith)
taken (c ∷ cs) zero h = refl
taken (c ∷ cs) (suc k) h = ap (λ (xs : List ℕ). c ∷ xs) (taken cs k (omega arith))

taken_last : (cs : List ℕ) (k : ℕ) → 0 < k → k ≤ length cs → take k cs ≡ take (k - 1) cs ++ get_or cs (k - 1) 0 ∷ []
taken_last cs k h w = ap (λ (n : ℕ). take n cs) (let e : k ≡ suc (k - 1) = omega arith in e) ∙ taken cs (k - 1) (omega arith)

pub kept_less : (cs : List ℕ) (k : ℕ) → 0 < k → k ≤ length cs → get_or cs (k - 1) 0 ≡ 255 → next_after (take k cs) ≡ next_after (take (k - 1) cs)
kept_less cs k h w e = ap next_after (taken_last cs k h w ∙ ap (λ (b : ℕ). take (k - 1) cs ++ b ∷ []) e) ∙ after_full (take (k - 1) cs)

pub kept_grown : (cs : List ℕ) (k : ℕ) → 0 < k → k ≤ length cs → get_or cs (k - 1) 0 < 255 → next_after (take k cs) ≡ take (k - 1) cs ++ (get_or cs (k - 1) 0 + 1) ∷ []
kept_grown cs k h w l = ap next_after (taken_last cs k h w) ∙ after_grown (take (k - 1) cs) (get_or cs (k - 1) 0) l
