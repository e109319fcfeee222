-- Lists whose items all pass, and filters of lists.
use Rattle.std.proofs.Common.{◌≡◌, ℕ, zero, suc, ◌≤◌, Bool, true, false, cond, List, [], ◌∷◌, length, take, drop, refl, arith}
use Rattle.std.specs.List.{filter, AllByRecursion, AllWithin}

pub all_filter_itself : {X : Type 0} (p : X → Bool) (xs : List X) → AllByRecursion (λ x. p x ≡ true) (filter p xs)
all_filter_itself p [] = tt
all_filter_itself {X} p (x ∷ xs) = cases (p x) refl (all_filter_itself p xs)
  where
    cases : (b : Bool) → p x ≡ b → AllByRecursion (λ x. p x ≡ true) (filter p xs) → AllByRecursion (λ x. p x ≡ true) (cond b (x ∷ filter p xs) (filter p xs))
    cases true e again = (e, again)
    cases false e again = again

-- what is known by index from the front
pub all_front : {X : Type 0} (P : X → Type 0) (xs : List X) (n : ℕ) → n ≤ length xs → AllWithin P xs 0 n → AllByRecursion P (take n xs)
all_front P xs zero le h = tt
all_front P [] (suc n) le h = absurd (let l : suc n ≤ 0 = le in omega arith)
all_front P (x ∷ xs) (suc n) le h = (h 0 x (omega arith) (omega arith), all_front P xs n (omega arith) (λ k d low high. h (suc k) d (omega arith) (omega arith)))

-- and up to the end
pub all_rest : {X : Type 0} (P : X → Type 0) (xs : List X) (n : ℕ) → AllWithin P xs n (length xs) → AllByRecursion P (drop n xs)
all_rest P [] zero h = tt
all_rest P [] (suc n) h = tt
all_rest P (x ∷ xs) zero h = (h 0 x (omega arith) (omega arith), all_rest P xs zero (λ k d low high. h (suc k) d (omega arith) (omega arith)))
all_rest P (x ∷ xs) (suc n) h = all_rest P xs n (λ k d low high. h (suc k) d (omega arith) (omega arith))
