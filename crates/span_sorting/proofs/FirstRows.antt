-- The first items of a list that is put in order, item by item from its end.
use Rattle.std.proofs.Common.{◌≡◌, refl, sym, ap, subst, arith, ◌∙◌, ℕ, zero, suc, ◌-◌, Bool, true, false, cond, List, [], ◌∷◌, ◌++◌, take, length, true≢false}
use Rattle.std.specs.Prelude.{slice_get, Some}
use Rattle.std.specs.List.{AllByRecursion}
use Rattle.std.specs.Cmp.{IsStrictWeakOrder}
use Rattle.std.proofs.lemmas.Bool.{true_from_ne_false}
use Rattle.std.proofs.Math.Seq.{take-append_seam}
use Rattle.span_value.proofs.Lists.{all_take}
use Rattle.span_query.specs.Sorting.{insert_sorted, insertion_sort}
use Rattle.span_sorting.specs.Orders.{IsSorted}
use Rattle.span_sorting.proofs.Sorting.{is_in_order}

module _ {A : Type 0} (lt : A → A → Bool) where
  -- what is beyond the first items is not needed for them
  pub first_of_inserted : (n : ℕ) (x : A) (ys : List A) → take n (insert_sorted lt x (take n ys)) ≡ take n (insert_sorted lt x ys)
  first_of_inserted zero x ys = refl
  first_of_inserted (suc n) x [] = refl
  first_of_inserted (suc n) x (y ∷ ys) = elim (lt y x) as (λ b. take (suc n) (cond b (y ∷ insert_sorted lt x (take n ys)) (x ∷ y ∷ take n ys)) ≡ take (suc n) (cond b (y ∷ insert_sorted lt x ys) (x ∷ y ∷ ys))) [
    | true ↦ ap (λ (zs : List A). y ∷ zs) (first_of_inserted n x ys)
    | false ↦ ap (λ (zs : List A). x ∷ zs) (first_again n y ys)
  ]
    where
      first_again : (n : ℕ) (y : A) (ys : List A) → take n (y ∷ take n ys) ≡ take n (y ∷ ys)
      first_again zero y ys = refl
      first_again (suc n) y [] = refl
      first_again (suc n) y (z ∷ ys) = ap (λ (zs : List A). y ∷ zs) (first_again n z ys)

  -- the first items of a list in order are in order
  pub first_sorted : (n : ℕ) (xs : List A) → IsSorted lt xs → IsSorted lt (take n xs)
  first_sorted zero xs up = tt
  first_sorted (suc n) [] up = tt
  first_sorted (suc n) (x ∷ xs) up = (all_take (λ y. lt y x ≡ false) n xs up.0, first_sorted n xs up.1)

  module _ (o : IsStrictWeakOrder lt) where
    last_of : (y : A) (ys : List A) (n : ℕ) (last : A) → length ys ≡ suc n → slice_get ys n ≡ Some last → AllByRecursion (λ z. lt z y ≡ false) ys → lt last y ≡ false
    last_of y [] n last long is all = absurd (omega (arith, long))
    last_of y (z ∷ ys) zero last long is all = let same : z ≡ last = cc in ap (λ (w : A). lt w y) (sym same) ∙ all.0
    last_of y (z ∷ ys) (suc n) last long is all = last_of y ys n last (omega (arith, long)) is all.1

    -- an item that the last comes before is put after all
    put_last : (ys : List A) (n : ℕ) (last x : A) → length ys ≡ suc n → slice_get ys n ≡ Some last → IsSorted lt ys → lt last x ≡ true → insert_sorted lt x ys ≡ ys ++ x ∷ []
    put_last [] n last x long is up after = refl
    put_last (y ∷ []) n last x long is up after =
        let first : n ≡ 0 = omega (arith, long) in
        let found : Some y ≡ Some last = subst (λ (k : ℕ). slice_get (y ∷ []) k ≡ Some last) first is in
        let same : y ≡ last = cc in
        ap (λ (b : Bool). cond b (y ∷ x ∷ []) (x ∷ y ∷ [])) (ap (λ (w : A). lt w x) same ∙ after)
    put_last (y ∷ z ∷ ys) zero last x long is up after = absurd (omega (arith, long))
    put_last (y ∷ z ∷ ys) (suc n) last x long is up after =
        let more : length (z ∷ ys) ≡ suc n = omega (arith, long) in
        let first : lt y x ≡ true =
        true_from_ne_false (lt y x) (λ h. true≢false (sym after ∙ o.chain last y x (last_of y (z ∷ ys) n last more is up.0) h)) in
        ap (λ (b : Bool). cond b (y ∷ insert_sorted lt x (z ∷ ys)) (x ∷ y ∷ z ∷ ys)) first
        ∙ ap (λ (l : List A). y ∷ l) (put_last (z ∷ ys) n last x more is up.1 after)

    -- and is none of the first, where these are as many as there are
    pub put_beyond : (n : ℕ) (ys : List A) (last x : A) → n ≡ length ys → slice_get ys (length ys - 1) ≡ Some last → IsSorted lt ys → lt last x ≡ true → take n (insert_sorted lt x ys) ≡ ys
    put_beyond n [] last x many is up after = ap (λ (k : ℕ). take k (x ∷ [])) many
    put_beyond n (y ∷ ys) last x many is up after =
        let end : length (y ∷ ys) - 1 ≡ length ys = omega arith in
        ap (λ (k : ℕ). take k (insert_sorted lt x (y ∷ ys))) many
        ∙ ap (take (length (y ∷ ys))) (put_last (y ∷ ys) (length ys) last x refl (subst (λ (k : ℕ). slice_get (y ∷ ys) k ≡ Some last) end is) up after)
        ∙ take-append_seam (y ∷ ys) (x ∷ [])

    -- the whole list in order, from its end on
    pub first_in_order : (n : ℕ) (xs : List A) → IsSorted lt (take n (insertion_sort lt xs))
    first_in_order n xs = first_sorted n (insertion_sort lt xs) (is_in_order lt o xs)
