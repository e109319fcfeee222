-- A list that a stable sort makes is the list in order.
use Rattle.std.proofs.Common.{◌≡◌, refl, sym, ap, ◌∙◌, ℕ, suc, ◌<◌, ◌≤◌, ◌&&◌, not, Bool, true, false, cond, List, [], ◌∷◌, ◌++◌, length, map, get_or, arith, true≢false}
use Rattle.std.specs.List.{AllByRecursion, filter}
use Rattle.std.specs.List.Sorted.{IsSortedBy, IsStableBy, ties}
use Rattle.std.specs.Cmp.{IsStrictWeakOrder}
use Rattle.std.proofs.lemmas.List.Elements.{filter-append}
use Rattle.std.proofs.lemmas.List.Sorted.{sorted_far}
use Rattle.span_query.specs.Sorting.{insert_sorted, insertion_sort}
use Rattle.span_sorting.specs.Orders.{IsSorted}
use Rattle.span_sorting.proofs.Order.{one_order}

first_not : (b c : Bool) → not b && not c ≡ true → b ≡ false
first_not true c e = absurd cc
first_not false c e = refl

neither : (b c : Bool) → not b && not c ≡ true → c ≡ false
neither b false e = refl
neither true true e = absurd cc
neither false true e = absurd cc

exchanged : {A : Type 0} (a b : Bool) (x y : A) (zs : List A) → (a ≡ true → b ≡ true → ⊥)
    → cond b (y ∷ cond a (x ∷ zs) zs) (cond a (x ∷ zs) zs) ≡ cond a (x ∷ cond b (y ∷ zs) zs) (cond b (y ∷ zs) zs)
exchanged true true x y zs h = absurd (h refl refl)
exchanged true false x y zs h = refl
exchanged false true x y zs h = refl
exchanged false false x y zs h = refl

module _ {A : Type 0} (lt : A → A → Bool) where
  pub all_placed : (P : A → Type 0) (x : A) (ys : List A) → P x → AllByRecursion P ys → AllByRecursion P (insert_sorted lt x ys)
  all_placed P x [] p all = (p, tt)
  all_placed P x (y ∷ ys) p all = elim (lt y x) as (λ b. AllByRecursion P (cond b (y ∷ insert_sorted lt x ys) (x ∷ y ∷ ys))) [
    | true ↦ (all.0, all_placed P x ys p all.1)
    | false ↦ (p, all)
  ]

  -- what holds of all items holds of them in order
  pub all_in_order : (P : A → Type 0) (xs : List A) → AllByRecursion P xs → AllByRecursion P (insertion_sort lt xs)
  all_in_order P [] all = tt
  all_in_order P (x ∷ xs) all = all_placed P x (insertion_sort lt xs) all.0 (all_in_order P xs all.1)

  -- a sort's clause by neighbours, as each against those after it
  rest_first : (x : A) (ys : List A) → ((k : ℕ) → k < length ys → lt (get_or ys k x) x ≡ false) → AllByRecursion (λ y. lt y x ≡ false) ys
  rest_first x [] h = tt
  rest_first x (y ∷ ys) h = (h 0 (omega arith), rest_first x ys (λ k below. h (suc k) (omega arith)))

  from_pairs : (ys : List A) → ((i j : ℕ) (d : A) → i ≤ j → j < length ys → lt (get_or ys j d) (get_or ys i d) ≡ false) → IsSorted lt ys
  from_pairs [] h = tt
  from_pairs (y ∷ ys) h = (rest_first y ys (λ k below. h 0 (suc k) y (omega arith) (omega arith)), from_pairs ys (λ i j d le below. h (suc i) (suc j) d (omega arith) (omega arith)))

  module _ (o : IsStrictWeakOrder lt) where
    pub from_sorted : (ys : List A) → IsSortedBy lt ys → IsSorted lt ys
    from_sorted ys up = from_pairs ys (sorted_far lt o ys up)

    pub none_before : (x y : A) (ys : List A) → lt y x ≡ false → AllByRecursion (λ w. lt w y ≡ false) ys → AllByRecursion (λ w. lt w x ≡ false) ys
    none_before x y [] e all = tt
    none_before x y (w ∷ ys) e all = (o.chain w y x all.0 e, none_before x y ys e all.1)

    pub placed_in_order : (x : A) (ys : List A) → IsSorted lt ys → IsSorted lt (insert_sorted lt x ys)
    placed_in_order x [] h = (tt, tt)
    placed_in_order x (y ∷ ys) h = elim (lt y x) as (λ b. lt y x ≡ b → IsSorted lt (cond b (y ∷ insert_sorted lt x ys) (x ∷ y ∷ ys))) [
      | true ↦ λ e. (all_placed (λ w. lt w y ≡ false) x ys (o.one_way y x e) h.0, placed_in_order x ys h.1)
      | false ↦ λ e. ((e, none_before x y ys e h.0), h)
    ] refl

    -- `insertion_sort` is in order
    pub is_in_order : (xs : List A) → IsSorted lt (insertion_sort lt xs)
    is_in_order [] = tt
    is_in_order (x ∷ xs) = placed_in_order x (insertion_sort lt xs) (is_in_order xs)

    -- of two items of which one comes before the other, not both tie with a third
    not_both : (z x y : A) → lt y x ≡ true → ties lt z x ≡ true → ties lt z y ≡ true → ⊥
    not_both z x y e p q =
        let later : lt y z ≡ false = neither (lt z y) (lt y z) q in
        let front : lt z x ≡ false = first_not (lt z x) (lt x z) p in
        let bad : lt y x ≡ false = o.chain y z x later front in
        true≢false (sym e ∙ bad)

    placed_ties : (z x : A) (ys : List A) → filter (ties lt z) (insert_sorted lt x ys) ≡ filter (ties lt z) (x ∷ ys)
    placed_ties z x [] = refl
    placed_ties z x (y ∷ ys) = elim (lt y x) as (λ b. lt y x ≡ b → filter (ties lt z) (cond b (y ∷ insert_sorted lt x ys) (x ∷ y ∷ ys)) ≡ filter (ties lt z) (x ∷ y ∷ ys)) [
      | true ↦ λ e. ap (λ (zs : List A). cond (ties lt z y) (y ∷ zs) zs) (placed_ties z x ys) ∙ exchanged (ties lt z x) (ties lt z y) x y (filter (ties lt z) ys) (not_both z x y e)
      | false ↦ λ e. refl
    ] refl

    -- in `insertion_sort`, ties keep their order
    pub keeps_ties : (xs : List A) → IsStableBy lt xs (insertion_sort lt xs)
    keeps_ties [] z = refl
    keeps_ties (x ∷ xs) z = placed_ties z x (insertion_sort lt xs) ∙ ap (λ (zs : List A). cond (ties lt z x) (x ∷ zs) zs) (keeps_ties xs z)

    -- no other list is in order and has ties in this order
    pub is_the_order : (xs ys : List A) → IsSorted lt ys → IsStableBy lt xs ys → ys ≡ insertion_sort lt xs
    is_the_order xs ys up stable = one_order lt o ys (insertion_sort lt xs) up (is_in_order xs) (λ z. stable z ∙ sym (keeps_ties xs z))

-- ---- items by what is read of each

module _ {A B : Type 0} (p : A → B) (before : B → B → Bool) (under : A → A → Bool) (same : (x y : A) → before (p x) (p y) ≡ under x y) where
  pub inserted_map : (x : A) (ys : List A) → insert_sorted before (p x) (map p ys) ≡ map p (insert_sorted under x ys)
  inserted_map x [] = refl
  inserted_map x (y ∷ ys) =
      ap (λ (b : Bool). cond b (p y ∷ insert_sorted before (p x) (map p ys)) (p x ∷ p y ∷ map p ys)) (same y x)
      ∙ (elim (under y x) as (λ b. cond b (p y ∷ insert_sorted before (p x) (map p ys)) (p x ∷ p y ∷ map p ys) ≡ map p (cond b (y ∷ insert_sorted under x ys) (x ∷ y ∷ ys))) [
        | true ↦ ap (λ (l : List B). p y ∷ l) (inserted_map x ys)
        | false ↦ refl
      ])

  pub sorted_map : (xs : List A) → insertion_sort before (map p xs) ≡ map p (insertion_sort under xs)
  sorted_map [] = refl
  sorted_map (x ∷ xs) = ap (insert_sorted before (p x)) (sorted_map xs) ∙ inserted_map x (insertion_sort under xs)

-- ---- parts

module _ {A : Type 0} (lt : A → A → Bool) (o : IsStrictWeakOrder lt) where
  -- ties have one order in lists that are one when they are in order
  ties_alike : (xs us : List A) → insertion_sort lt xs ≡ insertion_sort lt us → (z : A) → filter (ties lt z) xs ≡ filter (ties lt z) us
  ties_alike xs us e z = sym (keeps_ties lt o xs z) ∙ ap (filter (ties lt z)) e ∙ keeps_ties lt o us z

  -- two lists, each of which may be replaced by one that is the same when it is in order
  pub sorted_both : (xs us ys vs : List A) → insertion_sort lt xs ≡ insertion_sort lt us → insertion_sort lt ys ≡ insertion_sort lt vs
      → insertion_sort lt (xs ++ ys) ≡ insertion_sort lt (us ++ vs)
  sorted_both xs us ys vs e f =
      is_the_order lt o (us ++ vs) (insertion_sort lt (xs ++ ys)) (is_in_order lt o (xs ++ ys)) (λ z.
      keeps_ties lt o (xs ++ ys) z
      ∙ filter-append (ties lt z) xs ys
      ∙ ap (λ (l : List A). l ++ filter (ties lt z) ys) (ties_alike xs us e z)
      ∙ ap (λ (l : List A). filter (ties lt z) us ++ l) (ties_alike ys vs f z)
      ∙ sym (filter-append (ties lt z) us vs))

  -- a list in order stays as it is
  pub sorted_again : (xs : List A) → insertion_sort lt (insertion_sort lt xs) ≡ insertion_sort lt xs
  sorted_again xs = sym (is_the_order lt o (insertion_sort lt xs) (insertion_sort lt xs) (is_in_order lt o xs) (λ z. refl))
