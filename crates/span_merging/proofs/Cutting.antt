-- Lists that are in order, cut at a row: those before it in order, then the others in order, are all in order.
use Rattle.std.proofs.Common.{◌≡◌, refl, sym, ap, arith, ◌∙◌, ℕ, zero, suc, ◌<◌, Bool, true, false, not, cond, IfSome, List, [], ◌∷◌, ◌++◌, drop, filter, flat_map, length, map, get_or, take, true≢false}
use Rattle.std.specs.Prelude.{slice_get}
use Rattle.std.specs.Cmp.{IsStrictWeakOrder}
use Rattle.std.specs.List.{AllByRecursion}
use Rattle.std.proofs.lemmas.List.{append-nil, take-append-drop}
use Rattle.std.proofs.lemmas.List.Elements.{filter-append}
use Rattle.span_value.proofs.Lists.{all_at, all_filter, filter_all, filter_none}
use Rattle.span_query.specs.Sorting.{insert_sorted, insertion_sort}
use Rattle.span_sorting.specs.Orders.{IsSorted}
use Rattle.span_sorting.proofs.Sorting.{all_in_order, none_before}

-- items that pass the opposite of a test do not pass it
others : {A : Type 0} (test : A → Bool) (xs : List A) → AllByRecursion (λ x. test x ≡ false) (filter (λ x. not (test x)) xs)
others test [] = tt
others {A} test (x ∷ xs) = elim (test x) as (λ b. test x ≡ b → AllByRecursion (λ y. test y ≡ false) (cond (not b) (x ∷ filter (λ y. not (test y)) xs) (filter (λ y. not (test y)) xs))) [
  | true ↦ λ e. others test xs
  | false ↦ λ e. (e, others test xs)
] refl

-- items that are left by a test pass it
passing : {A : Type 0} (test : A → Bool) (xs : List A) → AllByRecursion (λ x. test x ≡ true) (filter test xs)
passing test [] = tt
passing {A} test (x ∷ xs) = elim (test x) as (λ b. test x ≡ b → AllByRecursion (λ y. test y ≡ true) (cond b (x ∷ filter test xs) (filter test xs))) [
  | true ↦ λ e. (e, passing test xs)
  | false ↦ λ e. passing test xs
] refl

module _ {A : Type 0} (lt : A → A → Bool) (o : IsStrictWeakOrder lt) (h : A) where
  -- what does not come after an item before h is before h too
  less_through : (x y : A) → lt y x ≡ false → lt y h ≡ true → lt x h ≡ true
  less_through x y not_less less = elim (lt x h) as (λ b. lt x h ≡ b → b ≡ true) [
    | true ↦ λ e. refl
    | false ↦ λ e. absurd (true≢false (sym less ∙ o.chain y x h not_less e))
  ] refl

  between : (x y : A) → lt y h ≡ true → lt x h ≡ false → lt y x ≡ true
  between x y less not_less = elim (lt y x) as (λ b. lt y x ≡ b → b ≡ true) [
    | true ↦ λ e. refl
    | false ↦ λ e. absurd (true≢false (sym less ∙ o.chain y x h e not_less))
  ] refl

  not_back : (x y : A) → lt x h ≡ true → lt y h ≡ false → lt y x ≡ false
  not_back x y less not_less = o.chain y h x not_less (o.one_way x h less)

  -- an item before h goes among those before h
  put_below : (x : A) (ys zs : List A) → lt x h ≡ true → AllByRecursion (λ z. lt z h ≡ false) zs → insert_sorted lt x (ys ++ zs) ≡ insert_sorted lt x ys ++ zs
  put_below x [] [] less all = refl
  put_below x [] (z ∷ zs) less all = ap (λ (b : Bool). cond b (z ∷ insert_sorted lt x zs) (x ∷ z ∷ zs)) (not_back x z less all.0)
  put_below x (y ∷ ys) zs less all = elim (lt y x) as (λ b. cond b (y ∷ insert_sorted lt x (ys ++ zs)) (x ∷ y ∷ (ys ++ zs)) ≡ cond b (y ∷ insert_sorted lt x ys) (x ∷ y ∷ ys) ++ zs) [
    | true ↦ ap (λ (l : List A). y ∷ l) (put_below x ys zs less all)
    | false ↦ refl
  ]

  -- another item goes after these
  put_above : (x : A) (ys zs : List A) → lt x h ≡ false → AllByRecursion (λ y. lt y h ≡ true) ys → insert_sorted lt x (ys ++ zs) ≡ ys ++ insert_sorted lt x zs
  put_above x [] zs not_less all = refl
  put_above x (y ∷ ys) zs not_less all =
      ap (λ (b : Bool). cond b (y ∷ insert_sorted lt x (ys ++ zs)) (x ∷ y ∷ (ys ++ zs))) (between x y all.0 not_less)
      ∙ ap (λ (l : List A). y ∷ l) (put_above x ys zs not_less all.1)

  abbrev below : A → Bool
  below x = lt x h

  abbrev not_below : A → Bool
  not_below x = not (lt x h)

  pub sorted_cut : (xs : List A) → insertion_sort lt xs ≡ insertion_sort lt (filter below xs) ++ insertion_sort lt (filter not_below xs)
  sorted_cut [] = refl
  sorted_cut (x ∷ xs) =
      let low : List A = insertion_sort lt (filter below xs) in
      let high : List A = insertion_sort lt (filter not_below xs) in
      ap (insert_sorted lt x) (sorted_cut xs)
      ∙ (elim (lt x h) as (λ b. lt x h ≡ b → insert_sorted lt x (low ++ high)
      ≡ insertion_sort lt (cond b (x ∷ filter below xs) (filter below xs)) ++ insertion_sort lt (cond (not b) (x ∷ filter not_below xs) (filter not_below xs))) [
        | true ↦ λ e. put_below x low high e (all_in_order lt (λ z. lt z h ≡ false) (filter not_below xs) (others below xs))
        | false ↦ λ e. put_above x low high e (all_in_order lt (λ z. lt z h ≡ true) (filter below xs) (passing below xs))
      ] refl)

  -- ---- in a list in order

  pub all_below : (xs : List A) (m : ℕ) (d : A) → m < length xs → IsSorted lt xs → lt (get_or xs m d) h ≡ true → AllByRecursion (λ x. lt x h ≡ true) (take (suc m) xs)
  all_below [] m d within up e = absurd (omega (arith, within))
  all_below (x ∷ xs) zero d within up e = (e, tt)
  all_below (x ∷ xs) (suc m) d within up e = (
    less_through x (get_or xs m d) (all_at (λ y. lt y x ≡ false) xs m d (omega (arith, within)) up.0) e,
    all_below xs m d (omega (arith, within)) up.1 e,
  )

  none_below : (xs : List A) (m : ℕ) → IsSorted lt xs → IfSome (slice_get xs m) (λ x. lt x h ≡ false) → AllByRecursion (λ x. lt x h ≡ false) (drop m xs)
  none_below [] zero up e = tt
  none_below [] (suc m) up e = tt
  none_below (x ∷ xs) zero up e = (e, none_before lt o h x xs e up.0)
  none_below (x ∷ xs) (suc m) up e = none_below xs m up.1 e

  not_all : (xs : List A) → AllByRecursion (λ x. lt x h ≡ true) xs → AllByRecursion (λ x. not (lt x h) ≡ false) xs
  not_all [] all = tt
  not_all (x ∷ xs) all = (ap not all.0, not_all xs all.1)

  all_not : (xs : List A) → AllByRecursion (λ x. lt x h ≡ false) xs → AllByRecursion (λ x. not (lt x h) ≡ true) xs
  all_not [] all = tt
  all_not (x ∷ xs) all = (ap not all.0, all_not xs all.1)

  module _ (xs : List A) (m : ℕ) (up : IsSorted lt xs) (front : AllByRecursion (λ x. lt x h ≡ true) (take m xs)) (next : IfSome (slice_get xs m) (λ x. lt x h ≡ false)) where
    pub front_is_below : take m xs ≡ filter below xs
    front_is_below =
        sym (ap (filter below) (sym (take-append-drop m xs))
        ∙ filter-append below (take m xs) (drop m xs)
        ∙ ap (λ (l : List A). l ++ filter below (drop m xs)) (filter_all below (take m xs) front)
        ∙ ap (λ (l : List A). take m xs ++ l) (filter_none below (drop m xs) (none_below xs m up next))
        ∙ append-nil (take m xs))

    pub rest_is_not_below : drop m xs ≡ filter not_below xs
    rest_is_not_below =
        sym (ap (filter not_below) (sym (take-append-drop m xs))
        ∙ filter-append not_below (take m xs) (drop m xs)
        ∙ ap (λ (l : List A). l ++ filter not_below (drop m xs)) (filter_none not_below (take m xs) (not_all (take m xs) front))
        ∙ filter_all not_below (drop m xs) (all_not (drop m xs) (none_below xs m up next)))

-- those of a list in order that pass a test are in order
pub filter_sorted : {A : Type 0} (lt : A → A → Bool) (test : A → Bool) (xs : List A) → IsSorted lt xs → IsSorted lt (filter test xs)
filter_sorted lt test [] up = tt
filter_sorted lt test (x ∷ xs) up = elim (test x) as (λ b. IsSorted lt (cond b (x ∷ filter test xs) (filter test xs))) [
  | true ↦ (all_filter (λ y. lt y x ≡ false) test xs up.0, filter_sorted lt test xs up.1)
  | false ↦ filter_sorted lt test xs up.1
]

-- lists one after another, of which each is left what passes a test
pub filter_lists : {A : Type 0} (test : A → Bool) (lists : List (List A)) → flat_map (λ (l : List A). l) (map (filter test) lists) ≡ filter test (flat_map (λ (l : List A). l) lists)
filter_lists test [] = refl
filter_lists {A} test (l ∷ lists) =
    ap (λ (r : List A). filter test l ++ r) (filter_lists test lists)
    ∙ sym (filter-append test l (flat_map (λ (l : List A). l) lists))
