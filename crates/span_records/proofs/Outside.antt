-- The fields outside the key, one more place at a time.
use Rattle.std.proofs.Common.{◌≡◌, ℕ, ◌+◌, ◌<◌, ◌==◌, Bool, true, false, not, List, [], ◌∷◌, ◌++◌, ◌∙◌, ap, length, take, get_or, filter, arith}
use Rattle.std.specs.List.{list_any, enumerate_from}
use Rattle.std.proofs.lemmas.List.{take_more, length-take}
use Rattle.std.proofs.lemmas.Grind.{common_steps}
use Rattle.span_records.specs.Layouts.{outside_key}

-- whether the column of a field is not in the key
abbrev is_outside : List ℕ → ℕ × ℕ → Bool
is_outside key field = not (list_any (λ place. place == field.1) key)

enumerate-push : (n : ℕ) (xs : List ℕ) (x : ℕ) → enumerate_from n (xs ++ x ∷ []) ≡ enumerate_from n xs ++ (n + length xs, x) ∷ []
enumerate-push n [] x = ap (λ k. (k, x) ∷ []) (let at : n ≡ n + 0 = omega arith in at)
enumerate-push n (y ∷ xs) x =
    ap (λ w. (n, y) ∷ w) (enumerate-push (n + 1) xs x ∙ ap (λ k. enumerate_from (n + 1) xs ++ (k, x) ∷ []) (let at : n + 1 + length xs ≡ n + (length (y ∷ xs)) = omega arith in at))

filter-push : (test : ℕ × ℕ → Bool) (xs : List (ℕ × ℕ)) (x : ℕ × ℕ) → test x ≡ true → filter test (xs ++ x ∷ []) ≡ filter test xs ++ x ∷ []
filter-push test xs x is = grind (arith, common_steps)

filter-pass : (test : ℕ × ℕ → Bool) (xs : List (ℕ × ℕ)) (x : ℕ × ℕ) → test x ≡ false → filter test (xs ++ x ∷ []) ≡ filter test xs
filter-pass test xs x is = grind (arith, common_steps)

next : (places : List ℕ) (at : ℕ) → at < length places → enumerate_from 0 (take (at + 1) places) ≡ enumerate_from 0 (take at places) ++ (at, get_or places at 0) ∷ []
next places at lt =
    ap (enumerate_from 0) (take_more places at 0 lt)
    ∙ enumerate-push 0 (take at places) (get_or places at 0)
    ∙ ap (λ k. enumerate_from 0 (take at places) ++ (k, get_or places at 0) ∷ []) (let long = length-take at places in let k : 0 + length (take at places) ≡ at = grind (arith, common_steps) in k)

pub outside_more : (key places : List ℕ) (at : ℕ) → at < length places → list_any (λ place. place == get_or places at 0) key ≡ false
    → outside_key key (take (at + 1) places) ≡ outside_key key (take at places) ++ (at, get_or places at 0) ∷ []
outside_more key places at lt is =
    ap (filter (is_outside key)) (next places at lt) ∙ filter-push (is_outside key) (enumerate_from 0 (take at places)) (at, get_or places at 0) (ap not is)

pub outside_same : (key places : List ℕ) (at : ℕ) → at < length places → list_any (λ place. place == get_or places at 0) key ≡ true
    → outside_key key (take (at + 1) places) ≡ outside_key key (take at places)
outside_same key places at lt is =
    ap (filter (is_outside key)) (next places at lt) ∙ filter-pass (is_outside key) (enumerate_from 0 (take at places)) (at, get_or places at 0) (ap not is)
