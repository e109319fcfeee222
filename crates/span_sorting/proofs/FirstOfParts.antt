-- The first items of two lists in order, one after the other: what is beyond the first of either is not needed.
use Rattle.std.proofs.Common.{◌≡◌, refl, sym, ap, arith, ◌∙◌, ℕ, zero, suc, ◌≤◌, Bool, true, false, cond, List, [], ◌∷◌, ◌++◌, Option, Some, None, take, take-take, true≢false}
use Rattle.std.specs.List.{AllByRecursion}
use Rattle.std.specs.Cmp.{IsStrictWeakOrder}
use Rattle.std.proofs.lemmas.Bool.{true_from_ne_false}
use Rattle.span_value.proofs.Lists.{all_take}
use Rattle.span_query.specs.Sorting.{insert_sorted, insertion_sort}
use Rattle.span_sorting.specs.Orders.{IsSorted, take_first}
use Rattle.span_sorting.proofs.FirstRows.{first_in_order, first_of_inserted}
use Rattle.span_sorting.proofs.Sorting.{all_placed, is_in_order, is_the_order, none_before, sorted_again, sorted_both}

module _ {A : Type 0} (lt : A → A → Bool) where
  -- a list into which items are put one by one, from the last on
  abbrev pub put_all : List A → List A → List A
  put_all [] zs = zs
  put_all (x ∷ xs) zs = insert_sorted lt x (put_all xs zs)

  pub sorted_after : (xs ys : List A) → insertion_sort lt (xs ++ ys) ≡ put_all xs (insertion_sort lt ys)
  sorted_after [] ys = refl
  sorted_after (x ∷ xs) ys = ap (insert_sorted lt x) (sorted_after xs ys)

  -- of the second list the first items are enough
  first_right : (n : ℕ) (xs ys vs : List A) → take n (insertion_sort lt ys) ≡ take n (insertion_sort lt vs)
      → take n (insertion_sort lt (xs ++ ys)) ≡ take n (insertion_sort lt (xs ++ vs))
  first_right n [] ys vs e = e
  first_right n (x ∷ xs) ys vs e =
      sym (first_of_inserted lt n x (insertion_sort lt (xs ++ ys)))
      ∙ ap (λ (l : List A). take n (insert_sorted lt x l)) (first_right n xs ys vs e)
      ∙ first_of_inserted lt n x (insertion_sort lt (xs ++ vs))

  -- an item that none of a list comes before is put in front of it
  pub put_first : (x : A) (ys : List A) → AllByRecursion (λ y. lt y x ≡ false) ys → insert_sorted lt x ys ≡ x ∷ ys
  put_first x [] all = refl
  put_first x (y ∷ ys) all = ap (λ (b : Bool). cond b (y ∷ insert_sorted lt x ys) (x ∷ y ∷ ys)) all.0

  all_put : (P : A → Type 0) (xs zs : List A) → AllByRecursion P xs → AllByRecursion P zs → AllByRecursion P (put_all xs zs)
  all_put P [] zs a b = b
  all_put P (x ∷ xs) zs a b = all_placed lt P x (put_all xs zs) a.0 (all_put P xs zs a.1 b)

  -- an item that comes before all that are put stays in front
  pub stays_first : (z : A) (xs zs : List A) → AllByRecursion (λ x. lt z x ≡ true) xs → put_all xs (z ∷ zs) ≡ z ∷ put_all xs zs
  stays_first z [] zs all = refl
  stays_first z (x ∷ xs) zs all =
      ap (insert_sorted lt x) (stays_first z xs zs all.1)
      ∙ ap (λ (b : Bool). cond b (z ∷ insert_sorted lt x (put_all xs zs)) (x ∷ z ∷ put_all xs zs)) all.0

  module _ (o : IsStrictWeakOrder lt) where
    pub before_all : (z w : A) (ws : List A) → lt z w ≡ true → AllByRecursion (λ v. lt v w ≡ false) ws → AllByRecursion (λ v. lt z v ≡ true) ws
    before_all z w [] e all = tt
    before_all z w (v ∷ ws) e all = (true_from_ne_false (lt z v) (λ h. true≢false (sym e ∙ o.chain z v w h all.0)), before_all z w ws e all.1)

    -- of the first list, which is in order, the first items are enough
    first_left : (n k : ℕ) (ws zs : List A) → n ≤ k → IsSorted lt ws → IsSorted lt zs → take n (put_all ws zs) ≡ take n (put_all (take k ws) zs)
    first_left zero k ws zs le a b = refl
    first_left (suc n) zero ws zs le a b = absurd (omega (arith, le))
    first_left (suc n) (suc k) [] zs le a b = refl
    first_left (suc n) (suc k) (w ∷ ws) [] le a b =
        ap (take (suc n)) (put_first w (put_all ws []) (all_put (λ v. lt v w ≡ false) ws [] a.0 tt))
        ∙ ap (λ (l : List A). w ∷ l) (first_left n k ws [] (omega (arith, le)) a.1 tt)
        ∙ sym (ap (take (suc n)) (put_first w (put_all (take k ws) []) (all_put (λ v. lt v w ≡ false) (take k ws) [] (all_take (λ v. lt v w ≡ false) k ws a.0) tt)))
    first_left (suc n) (suc k) (w ∷ ws) (z ∷ zs) le a b = elim (lt z w) as (λ c. lt z w ≡ c → take (suc n) (put_all (w ∷ ws) (z ∷ zs)) ≡ take (suc n) (put_all (w ∷ take k ws) (z ∷ zs))) [
      | true ↦ λ e.
          ap (take (suc n)) (stays_first z (w ∷ ws) zs (e, before_all z w ws e a.0))
          ∙ ap (λ (l : List A). z ∷ l) (first_left n (suc k) (w ∷ ws) zs (omega (arith, le)) a b.1)
          ∙ sym (ap (take (suc n)) (stays_first z (w ∷ take k ws) zs (e, before_all z w (take k ws) e (all_take (λ v. lt v w ≡ false) k ws a.0))))
      | false ↦ λ e.
          let rest : AllByRecursion (λ v. lt v w ≡ false) (z ∷ zs) = (e, none_before lt o w z zs e b.0) in
          ap (take (suc n)) (put_first w (put_all ws (z ∷ zs)) (all_put (λ v. lt v w ≡ false) ws (z ∷ zs) a.0 rest))
          ∙ ap (λ (l : List A). w ∷ l) (first_left n k ws (z ∷ zs) (omega (arith, le)) a.1 b)
          ∙ sym (ap (take (suc n)) (put_first w (put_all (take k ws) (z ∷ zs)) (all_put (λ v. lt v w ≡ false) (take k ws) (z ∷ zs) (all_take (λ v. lt v w ≡ false) k ws a.0) rest)))
    ] refl

    first_of_both : (n : ℕ) (xs ys : List A) → take n (insertion_sort lt (xs ++ ys)) ≡ take n (put_all (take n (insertion_sort lt xs)) (insertion_sort lt ys))
    first_of_both n xs ys =
        ap (take n) (sorted_both lt o xs (insertion_sort lt xs) ys ys (sym (sorted_again lt o xs)) refl ∙ sorted_after (insertion_sort lt xs) ys)
        ∙ first_left n n (insertion_sort lt xs) (insertion_sort lt ys) (omega arith) (is_in_order lt o xs) (is_in_order lt o ys)

    -- two lists, each of which may be replaced by one whose first items in order are the same
    pub first_both : (n : ℕ) (xs us ys vs : List A) → take n (insertion_sort lt xs) ≡ take n (insertion_sort lt us) → take n (insertion_sort lt ys) ≡ take n (insertion_sort lt vs)
        → take n (insertion_sort lt (xs ++ ys)) ≡ take n (insertion_sort lt (us ++ vs))
    first_both n xs us ys vs e f =
        first_of_both n xs ys
        ∙ ap (λ (l : List A). take n (put_all l (insertion_sort lt ys))) e
        ∙ sym (first_of_both n us ys)
        ∙ first_right n us ys vs f

    -- the same where no count may be given
    pub first_of_parts : (count : Option ℕ) (xs us ys vs : List A)
        → take_first count (insertion_sort lt xs) ≡ take_first count (insertion_sort lt us)
        → take_first count (insertion_sort lt ys) ≡ take_first count (insertion_sort lt vs)
        → take_first count (insertion_sort lt (xs ++ ys)) ≡ take_first count (insertion_sort lt (us ++ vs))
    first_of_parts None xs us ys vs e f = sorted_both lt o xs us ys vs e f
    first_of_parts (Some n) xs us ys vs e f = first_both n xs us ys vs e f

    -- the first items in order stay so
    pub first_again : (count : Option ℕ) (xs : List A)
        → take_first count (insertion_sort lt (take_first count (insertion_sort lt xs))) ≡ take_first count (insertion_sort lt xs)
    first_again None xs = sorted_again lt o xs
    first_again (Some n) xs =
        let first : List A = take n (insertion_sort lt xs) in
        ap (take n) (sym (is_the_order lt o first first (first_in_order lt o n xs) (λ z. refl)))
        ∙ take-take n n (insertion_sort lt xs) (omega arith)
