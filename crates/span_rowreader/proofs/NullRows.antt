-- Rows whose values are made NULL one by one.
use Rattle.std.proofs.Common.{◌≡◌, ◌∙◌, ℕ, zero, suc, ◌+◌, ◌<◌, ◌≤◌, List, [], ◌∷◌, length, take, set, replicate, refl, ap, sym, arith}
use Rattle.std.proofs.lemmas.List.{take_all}

next_after : {A : Type 0} (v : A) (xs : List A) (at : ℕ) → at < length xs → take at xs ≡ replicate at v → take (suc at) (set xs at v) ≡ replicate (suc at) v
next_after v [] at less so = absurd (let l : at < 0 = less in omega arith)
next_after v (x ∷ xs) zero less so = refl
next_after v (x ∷ xs) (suc at) less so =
    let f : x ∷ take at xs ≡ v ∷ replicate at v = so in
    let first : x ≡ v = cc in
    let rest : take at xs ≡ replicate at v = cc in
    ap (λ (y : _). y ∷ take (suc at) (set xs at v)) first ∙ ap (λ (l : List _). v ∷ l) (next_after v xs at (omega arith) rest)

pub next_null : {A : Type 0} (v : A) (xs ys : List A) (at : ℕ) → at < length xs → ys ≡ set xs at v → take at xs ≡ replicate at v → take (at + 1) ys ≡ replicate (at + 1) v
next_null v xs ys at less is so =
    ap (take (at + 1)) is ∙ ap (λ (n : ℕ). take n (set xs at v)) (let e : at + 1 ≡ suc at = omega arith in e) ∙ next_after v xs at less so ∙ ap (λ (n : ℕ). replicate n v) (let e : suc at ≡ at + 1 = omega arith in e)

pub all_nulls : {A : Type 0} (v : A) (xs : List A) (n at : ℕ) → length xs ≡ n → n ≤ at → at ≤ n → take at xs ≡ replicate at v → xs ≡ replicate n v
all_nulls v xs n at long over within so = sym (take_all at xs (omega arith)) ∙ so ∙ ap (λ (k : ℕ). replicate k v) (let e : at ≡ n = omega arith in e)
