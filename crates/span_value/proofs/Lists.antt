-- Equal lists have equal parts; lists whose items all pass; filters, searches and parts of lists.
use Rattle.std.proofs.Common.{◌≡◌, ℕ, zero, suc, ◌+◌, ◌<◌, Bool, true, false, ◌&&◌, ◌||◌, cond, List, [], ◌∷◌, ◌++◌, Some, length, take, drop, map, get_or, refl, sym, ap, subst, ◌∙◌, arith}
use Rattle.std.specs.Prelude.{filter, slice_get}
use Rattle.std.specs.List.{list_any, AllByRecursion}
use Rattle.std.proofs.lemmas.List.{drop_more}

pub cons_inj : {X : Type 0} (a b : X) (xs ys : List X) → a ∷ xs ≡ b ∷ ys → (a ≡ b) × (xs ≡ ys)
cons_inj a b xs ys e = (cc, cc)

-- ---- what holds of each item

module _ {X : Type 0} (P : X → Type 0) where
  pub all_whole : ((x : X) → P x) → (xs : List X) → AllByRecursion P xs
  all_whole each [] = tt
  all_whole each (x ∷ xs) = (each x, all_whole each xs)

  pub all_append : (xs ys : List X) → AllByRecursion P xs → AllByRecursion P ys → AllByRecursion P (xs ++ ys)
  all_append [] ys front back = back
  all_append (x ∷ xs) ys front back = (front.0, all_append xs ys front.1 back)

  pub all_push : (xs : List X) (x : X) → AllByRecursion P xs → P x → AllByRecursion P (xs ++ x ∷ [])
  all_push [] x all last = (last, tt)
  all_push (y ∷ ys) x all last = (all.0, all_push ys x all.1 last)

  pub all_take : (n : ℕ) (xs : List X) → AllByRecursion P xs → AllByRecursion P (take n xs)
  all_take zero xs all = tt
  all_take (suc n) [] all = tt
  all_take (suc n) (x ∷ xs) all = (all.0, all_take n xs all.1)

  pub all_drop : (n : ℕ) (xs : List X) → AllByRecursion P xs → AllByRecursion P (drop n xs)
  all_drop zero xs all = all
  all_drop (suc n) [] all = tt
  all_drop (suc n) (x ∷ xs) all = all_drop n xs all.1

  pub all_filter : (test : X → Bool) (xs : List X) → AllByRecursion P xs → AllByRecursion P (filter test xs)
  all_filter test [] all = tt
  all_filter test (x ∷ xs) all = elim (test x) as (λ b. AllByRecursion P (cond b (x ∷ filter test xs) (filter test xs))) [
    | true ↦ (all.0, all_filter test xs all.1)
    | false ↦ all_filter test xs all.1
  ]

  -- at a place, by the item that is found there or by what is read
  pub all_found_at : (xs : List X) (i : ℕ) (x : X) → slice_get xs i ≡ Some x → AllByRecursion P xs → P x
  all_found_at [] i x e all = cc
  all_found_at (y ∷ ys) zero x e all = let same : y ≡ x = cc in subst P same all.0
  all_found_at (y ∷ ys) (suc i) x e all = all_found_at ys i x e all.1

  pub all_at : (xs : List X) (i : ℕ) (d : X) → i < length xs → AllByRecursion P xs → P (get_or xs i d)
  all_at [] i d less all = absurd (let bad : i < 0 = less in omega arith)
  all_at (x ∷ xs) zero d less all = all.0
  all_at (x ∷ xs) (suc i) d less all = all_at xs i d (omega arith) all.1

module _ {X : Type 0} (P Q : X → Type 0) where
  pub all_weaker : ((x : X) → P x → Q x) → (xs : List X) → AllByRecursion P xs → AllByRecursion Q xs
  all_weaker weaker [] all = tt
  all_weaker weaker (x ∷ xs) all = (weaker x all.0, all_weaker weaker xs all.1)

  pub all_both : (xs : List X) → AllByRecursion P xs → AllByRecursion Q xs → AllByRecursion (λ x. P x × Q x) xs
  all_both [] first second = tt
  all_both (x ∷ xs) first second = ((first.0, second.0), all_both xs first.1 second.1)

-- of what is made of each
pub all_map : {X Y : Type 0} (P : X → Type 0) (Q : Y → Type 0) (f : X → Y) → ((x : X) → P x → Q (f x)) → (xs : List X) → AllByRecursion P xs → AllByRecursion Q (map f xs)
all_map P Q f makes [] all = tt
all_map P Q f makes (x ∷ xs) all = (makes x all.0, all_map P Q f makes xs all.1)

-- ---- filters and searches

-- what is kept where all pass, or none
pub filter_all : {X : Type 0} (test : X → Bool) (xs : List X) → AllByRecursion (λ x. test x ≡ true) xs → filter test xs ≡ xs
filter_all test [] all = refl
filter_all {X} test (x ∷ xs) all = ap (λ (b : Bool). cond b (x ∷ filter test xs) (filter test xs)) all.0 ∙ ap (λ (l : List X). x ∷ l) (filter_all test xs all.1)

pub filter_none : {X : Type 0} (test : X → Bool) (xs : List X) → AllByRecursion (λ x. test x ≡ false) xs → filter test xs ≡ []
filter_none test [] all = refl
filter_none {X} test (x ∷ xs) all = ap (λ (b : Bool). cond b (x ∷ filter test xs) (filter test xs)) all.0 ∙ filter_none test xs all.1

-- two filters, in either order
pub filter_swap : {X : Type 0} (p q : X → Bool) (xs : List X) → filter p (filter q xs) ≡ filter q (filter p xs)
filter_swap p q [] = refl
filter_swap p q (x ∷ xs) = elim (p x) as (λ b. p x ≡ b → filter p (cond (q x) (x ∷ filter q xs) (filter q xs)) ≡ filter q (cond b (x ∷ filter p xs) (filter p xs))) [
  | true ↦ λ e. elim (q x) as (λ v. filter p (cond v (x ∷ filter q xs) (filter q xs)) ≡ cond v (x ∷ filter q (filter p xs)) (filter q (filter p xs))) [
    | true ↦ rw e (ap (λ l. x ∷ l) (filter_swap p q xs))
    | false ↦ filter_swap p q xs
  ]
  | false ↦ λ e. elim (q x) as (λ v. filter p (cond v (x ∷ filter q xs) (filter q xs)) ≡ filter q (filter p xs)) [
    | true ↦ rw e (filter_swap p q xs)
    | false ↦ filter_swap p q xs
  ]
] refl

-- a test of what is made of the items
pub filter-map : {X Y : Type 0} (q : Y → Bool) (f : X → Y) (xs : List X) → filter q (map f xs) ≡ map f (filter (λ x. q (f x)) xs)
filter-map q f [] = refl
filter-map {X} {Y} q f (x ∷ xs) = ap (λ (l : List Y). cond (q (f x)) (f x ∷ l) l) (filter-map q f xs) ∙ out (q (f x))
  where
    out : (b : Bool) → cond b (f x ∷ map f (filter (λ x. q (f x)) xs)) (map f (filter (λ x. q (f x)) xs)) ≡ map f (cond b (x ∷ filter (λ x. q (f x)) xs) (filter (λ x. q (f x)) xs))
    out true = refl
    out false = refl

pub list_any-map : {X Y : Type 0} (q : Y → Bool) (f : X → Y) (xs : List X) → list_any q (map f xs) ≡ list_any (λ x. q (f x)) xs
list_any-map q f [] = refl
list_any-map q f (x ∷ xs) = ap (λ (b : Bool). q (f x) || b) (list_any-map q f xs)

-- a second test of those that pass the first
pub list_any-filter : {X : Type 0} (p q : X → Bool) (xs : List X) → list_any (λ x. p x && q x) xs ≡ list_any q (filter p xs)
list_any-filter p q [] = refl
list_any-filter p q (x ∷ xs) = elim (p x) as (λ b. ((b && q x) || list_any (λ y. p y && q y) xs) ≡ list_any q (cond b (x ∷ filter p xs) (filter p xs))) [
  | true ↦ ap (λ (b : Bool). q x || b) (list_any-filter p q xs)
  | false ↦ list_any-filter p q xs
]

-- ---- parts

-- what is left of a list begins with the item that is read at the place
pub drop_read : {X : Type 0} (xs : List X) (i : ℕ) (x : X) → i < length xs → x ≡ get_or xs i x → drop i xs ≡ x ∷ drop (i + 1) xs
drop_read {X} xs i x less is = drop_more xs i x less ∙ ap (λ (y : X). y ∷ drop (i + 1) xs) (sym is)
