use Rattle.std.proofs.Common.{◌≡◌, Bool, true, false, cond, List, [], ◌∷◌, refl, ap, sym, ◌∙◌}
use Rattle.std.specs.List.{AllByRecursion, filter}
use Rattle.span_value.proofs.Lists.{all_filter}
use Rattle.span_machine.specs.Sorting.{placed, in_order, IsInOrder}

pub record IsOrder {A : Type 0} (before : A → A → Bool) : Type 0 where
  pub across : (x y z : A) → before x y ≡ true → before z y ≡ false → before x z ≡ true
  pub apart : (x y : A) → before x y ≡ true → before y x ≡ false

pub all_placed : {A : Type 0} (P : A → Type 0) (before : A → A → Bool) (x : A) (ys : List A) → P x → AllByRecursion P ys → AllByRecursion P (placed before x ys)
all_placed P before x [] here all = (here, tt)
all_placed P before x (y ∷ ys) here all = elim (before x y) as (λ b. AllByRecursion P (cond b (x ∷ y ∷ ys) (y ∷ placed before x ys))) [
  | true ↦ (here, all)
  | false ↦ (all.0, all_placed P before x ys here all.1)
]

-- what holds of each holds of each in order
pub all_in_order : {A : Type 0} (P : A → Type 0) (before : A → A → Bool) (xs : List A) → AllByRecursion P xs → AllByRecursion P (in_order before xs)
all_in_order P before [] all = tt
all_in_order P before (x ∷ xs) all = all_placed P before x (in_order before xs) all.0 (all_in_order P before xs all.1)

module _ {A : Type 0} (before : A → A → Bool) (o : IsOrder before) where
  pub all_following : (x y : A) (ys : List A) → before x y ≡ true → AllByRecursion (λ z. before z y ≡ false) ys → AllByRecursion (λ z. before x z ≡ true) ys
  all_following x y [] b all = tt
  all_following x y (z ∷ zs) b all = (o.across x y z b all.0, all_following x y zs b all.1)

  pub all_apart : (x : A) (ys : List A) → AllByRecursion (λ z. before x z ≡ true) ys → AllByRecursion (λ z. before z x ≡ false) ys
  all_apart x [] all = tt
  all_apart x (z ∷ zs) all = (o.apart x z all.0, all_apart x zs all.1)

  pub placed-in_order : (x : A) (xs : List A) → IsInOrder before xs → IsInOrder before (placed before x xs)
  placed-in_order x [] h = (tt, tt)
  placed-in_order x (y ∷ ys) h = elim (before x y) as (λ b. before x y ≡ b → IsInOrder before (cond b (x ∷ y ∷ ys) (y ∷ placed before x ys))) [
    | true ↦ λ e. (all_apart x (y ∷ ys) (e, all_following x y ys e h.0), h)
    | false ↦ λ e. (all_placed (λ z. before z y ≡ false) before x ys e h.0, placed-in_order x ys h.1)
  ] refl

  pub in_order-in_order : (xs : List A) → IsInOrder before (in_order before xs)
  in_order-in_order [] = tt
  in_order-in_order (x ∷ xs) = placed-in_order x (in_order before xs) (in_order-in_order xs)

  -- x is at the front of what is all after it
  pub placed_front : (x : A) (ys : List A) → AllByRecursion (λ z. before x z ≡ true) ys → placed before x ys ≡ x ∷ ys
  placed_front x [] all = refl
  placed_front x (y ∷ ys) all = rw (all.0) refl

  -- what is placed and kept is placed among what is kept
  pub filter-placed : (q : A → Bool) (x : A) (xs : List A) → IsInOrder before xs → filter q (placed before x xs) ≡ cond (q x) (placed before x (filter q xs)) (filter q xs)
  filter-placed q x [] h = elim (q x) as (λ b. cond b (x ∷ []) [] ≡ cond b (x ∷ []) []) [ true ↦ refl | false ↦ refl ]
  filter-placed q x (y ∷ ys) h = elim (before x y) as (λ b. before x y ≡ b → filter q (cond b (x ∷ y ∷ ys) (y ∷ placed before x ys)) ≡ cond (q x) (placed before x (filter q (y ∷ ys))) (filter q (y ∷ ys))) [
    | true ↦ λ e. ap (λ l. cond (q x) l (filter q (y ∷ ys))) (sym (placed_front x (filter q (y ∷ ys)) (all_filter (λ z. before x z ≡ true) q (y ∷ ys) (e, all_following x y ys e h.0))))
    | false ↦ λ e. elim (q y) as (λ k. cond k (y ∷ filter q (placed before x ys)) (filter q (placed before x ys)) ≡ cond (q x) (placed before x (cond k (y ∷ filter q ys) (filter q ys))) (cond k (y ∷ filter q ys) (filter q ys))) [
      | true ↦ ap (λ l. y ∷ l) (filter-placed q x ys h.1) ∙ elim (q x) as (λ b. y ∷ cond b (placed before x (filter q ys)) (filter q ys) ≡ cond b (placed before x (y ∷ filter q ys)) (y ∷ filter q ys)) [ true ↦ rw e refl | false ↦ refl ]
      | false ↦ filter-placed q x ys h.1
    ]
  ] refl

  pub filter-in_order : (q : A → Bool) (xs : List A) → filter q (in_order before xs) ≡ in_order before (filter q xs)
  filter-in_order q [] = refl
  filter-in_order q (x ∷ xs) = filter-placed q x (in_order before xs) (in_order-in_order xs) ∙ elim (q x) as (λ b. cond b (placed before x (filter q (in_order before xs))) (filter q (in_order before xs)) ≡ in_order before (cond b (x ∷ filter q xs) (filter q xs))) [
    | true ↦ ap (placed before x) (filter-in_order q xs)
    | false ↦ filter-in_order q xs
  ]
