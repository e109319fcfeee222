-- The elements that pass a test.
use Rattle.std.proofs.Common.{◌≡◌, ℕ, ◌<◌, ◌+◌, zero, suc, Bool, true, false, cond, ◌&&◌, List, [], ◌∷◌, ◌++◌, length, take, refl, ap, sym, arith, get_or, add-one}
use Rattle.std.specs.Prelude.{filter}
use Rattle.std.specs.List.{list_all}

module _ {A : Type 0} (test : A → Bool) where
  -- one more element
  taken_more : (xs : List A) (i : ℕ) (x : A) → i < length xs → x ≡ get_or xs i x → filter test (take (suc i) xs) ≡ filter test (take i xs) ++ filter test (x ∷ [])
  taken_more [] i x low is = absurd (omega arith)
  taken_more (y ∷ ys) zero x low is = ap (λ z. filter test (z ∷ [])) (sym is)
  taken_more (y ∷ ys) (suc i) x low is =
      elim (test y) as (λ b. cond b (y ∷ filter test (take (suc i) ys)) (filter test (take (suc i) ys)) ≡ cond b (y ∷ filter test (take i ys)) (filter test (take i ys)) ++ filter test (x ∷ [])) [
        | true ↦ ap (λ l. y ∷ l) (taken_more ys i x (omega arith) is)
        | false ↦ taken_more ys i x (omega arith) is
      ]

  pub one_more : (xs : List A) (i : ℕ) (x : A) → i < length xs → x ≡ get_or xs i x → filter test (take (i + 1) xs) ≡ filter test (take i xs) ++ filter test (x ∷ [])
  one_more xs i x low is = rw (add-one i) (taken_more xs i x low is)

  -- where all pass, the list is as it was
  pub all_kept : (xs : List A) → list_all test xs ≡ true → filter test xs ≡ xs
  all_kept [] = λ e. refl
  all_kept (x ∷ xs) = elim (test x) as (λ b. (b && list_all test xs) ≡ true → cond b (x ∷ filter test xs) (filter test xs) ≡ x ∷ xs) [
    | true ↦ λ e. ap (λ l. x ∷ l) (all_kept xs e)
    | false ↦ λ e. absurd (cc)
  ]
