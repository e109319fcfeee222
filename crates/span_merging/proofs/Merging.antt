-- Lists in order, one after another: the least of their first items is the first of all of them in order.
use Rattle.std.proofs.Common.{◌≡◌, refl, sym, ap, subst, arith, ◌∙◌, ℕ, zero, suc, ◌<◌, Bool, true, false, List, [], ◌∷◌, ◌++◌, Option, None, Some, append_assoc, flat_map, length, get_or, set, true≢false}
use Rattle.std.specs.Prelude.{slice_get}
use Rattle.std.specs.Cmp.{IsStrictWeakOrder}
use Rattle.std.specs.List.{AllByRecursion}
use Rattle.span_value.proofs.Lists.{all_append}
use Rattle.span_query.specs.Sorting.{insertion_sort}
use Rattle.span_sorting.specs.Orders.{IsSorted, option_before}
use Rattle.span_sorting.proofs.FirstOfParts.{before_all, put_all, put_first, sorted_after, stays_first}
use Rattle.span_sorting.proofs.Sorting.{all_in_order, none_before}

-- of items that may be none, none comes after all others
pub first_ranked : {A : Type 0} (lt : A → A → Bool) → IsStrictWeakOrder lt → IsStrictWeakOrder (option_before lt)
first_ranked {A} lt o = record { one_way = one_way; chain = chain }
  where
    one_way : (x y : Option A) → option_before lt x y ≡ true → option_before lt y x ≡ false
    one_way None y e = absurd (true≢false (sym e))
    one_way (Some x) None e = refl
    one_way (Some x) (Some y) e = o.one_way x y e

    chain : (x y z : Option A) → option_before lt x y ≡ false → option_before lt y z ≡ false → option_before lt x z ≡ false
    chain None y z e f = refl
    chain (Some x) None z e f = absurd (true≢false e)
    chain (Some x) (Some y) None e f = absurd (true≢false f)
    chain (Some x) (Some y) (Some z) e f = o.chain x y z e f

-- none of the first `count` items comes before this one, and it comes before those that precede it
pub record IsLeast {A : Type 0} (before : A → A → Bool) (items : ℕ → A) (count least : ℕ) : Type 0 where
  pub within : least < count
  pub none : (i : ℕ) → i < count → before (items i) (items least) ≡ false
  pub first : (i : ℕ) → i < least → before (items least) (items i) ≡ true

-- ---- lists one after another

module _ {A : Type 0} where
  abbrev pub concat : List (List A) → List A
  concat lists = flat_map (λ (l : List A). l) lists

  abbrev pub first_at : List (List A) → ℕ → Option A
  first_at lists i = slice_get (get_or lists i []) 0

module _ {A : Type 0} (lt : A → A → Bool) where
  -- an item that comes before all of one list, where none of another one comes before it
  least_first : (h : A) (xs ys : List A) → AllByRecursion (λ x. lt h x ≡ true) xs → AllByRecursion (λ y. lt y h ≡ false) ys
      → insertion_sort lt (xs ++ h ∷ ys) ≡ h ∷ insertion_sort lt (xs ++ ys)
  least_first h xs ys before after =
      sorted_after lt xs (h ∷ ys)
      ∙ ap (put_all lt xs) (put_first lt h (insertion_sort lt ys) (all_in_order lt (λ y. lt y h ≡ false) ys after))
      ∙ stays_first lt h xs (insertion_sort lt ys) before
      ∙ ap (λ (l : List A). h ∷ l) (sym (sorted_after lt xs ys))

  module _ (o : IsStrictWeakOrder lt) where
    before_list : (h : A) (l : List A) → IsSorted lt l → option_before lt (Some h) (slice_get l 0) ≡ true → AllByRecursion (λ x. lt h x ≡ true) l
    before_list h [] up e = tt
    before_list h (x ∷ l) up e = (e, before_all lt o h x l e up.0)

    after_list : (h : A) (l : List A) → IsSorted lt l → option_before lt (slice_get l 0) (Some h) ≡ false → AllByRecursion (λ x. lt x h ≡ false) l
    after_list h [] up e = tt
    after_list h (x ∷ l) up e = (e, none_before lt o h x l e up.0)

    after_lists : (h : A) (lists : List (List A)) → AllByRecursion (IsSorted lt) lists
        → ((i : ℕ) → i < length lists → option_before lt (first_at lists i) (Some h) ≡ false) → AllByRecursion (λ x. lt x h ≡ false) (concat lists)
    after_lists h [] up none = tt
    after_lists h (l ∷ lists) up none =
        all_append (λ x. lt x h ≡ false) l (concat lists) (after_list h l up.0 (none 0 (omega arith)))
        (after_lists h lists up.1 (λ i below. none (suc i) (omega (arith, below))))

    -- the items before the first one of a list, and those after it
    record Around (lists left : List (List A)) (h : A) : Type 0 where
      before : List A
      after : List A
      whole : concat lists ≡ before ++ h ∷ after
      rest : concat left ≡ before ++ after
      less : AllByRecursion (λ x. lt h x ≡ true) before
      none : AllByRecursion (λ y. lt y h ≡ false) after

    around : (lists : List (List A)) (k : ℕ) (h : A) (t : List A) → k < length lists → get_or lists k [] ≡ h ∷ t → AllByRecursion (IsSorted lt) lists
        → ((i : ℕ) → i < length lists → option_before lt (first_at lists i) (Some h) ≡ false)
        → ((i : ℕ) → i < k → option_before lt (Some h) (first_at lists i) ≡ true)
        → Around lists (set lists k t) h
    around [] k h t within is up none first = absurd (omega (arith, within))
    around (l ∷ lists) zero h t within is up none first =
        let sorted : IsSorted lt (h ∷ t) = subst (IsSorted lt) is up.0 in
        record {
          before = [];
          after = t ++ concat lists;
          whole = ap (λ (s : List A). s ++ concat lists) is;
          rest = refl;
          less = tt;
          none = all_append (λ x. lt x h ≡ false) t (concat lists) sorted.0 (after_lists h lists up.1 (λ i below. none (suc i) (omega (arith, below))));
        }
    around (l ∷ lists) (suc k) h t within is up none first =
        let more : Around lists (set lists k t) h = around lists k h t (omega (arith, within)) is up.1 (λ i below. none (suc i) (omega (arith, below))) (λ i below. first (suc i) (omega (arith, below))) in
        record {
          before = l ++ more.before;
          after = more.after;
          whole = ap (λ (s : List A). l ++ s) more.whole ∙ sym (append_assoc l more.before (h ∷ more.after));
          rest = ap (λ (s : List A). l ++ s) more.rest ∙ sym (append_assoc l more.before more.after);
          less = all_append (λ x. lt h x ≡ true) l more.before (before_list h l up.0 (first 0 (omega arith))) more.less;
          none = more.none;
        }

    -- the first of all items in order, where it is the first of the list at this place
    pub least_taken : (lists : List (List A)) (k : ℕ) (h : A) (t : List A) → get_or lists k [] ≡ h ∷ t → AllByRecursion (IsSorted lt) lists
        → IsLeast (option_before lt) (first_at lists) (length lists) k
        → insertion_sort lt (concat lists) ≡ h ∷ insertion_sort lt (concat (set lists k t))
    least_taken lists k h t is up least =
        let head : first_at lists k ≡ Some h = ap (λ (l : List A). slice_get l 0) is in
        let a : Around lists (set lists k t) h = around lists k h t least.within is up
        (λ i below. ap (option_before lt (first_at lists i)) (sym head) ∙ least.none i below)
        (λ i below. ap (λ (x : Option A). option_before lt x (first_at lists i)) (sym head) ∙ least.first i below) in
        ap (insertion_sort lt) a.whole
        ∙ least_first h a.before a.after a.less a.none
        ∙ ap (λ (l : List A). h ∷ insertion_sort lt l) (sym a.rest)

    -- where none comes before the one that is not there, no item is there
    pub none_left : (lists : List (List A)) (k : ℕ) → get_or lists k [] ≡ []
        → IsLeast (option_before lt) (first_at lists) (length lists) k → concat lists ≡ []
    none_left lists k is least = all_empty lists (λ i below. ap (option_before lt (first_at lists i)) (sym (ap (λ (l : List A). slice_get l 0) is)) ∙ least.none i below)
      where
        all_empty : (lists : List (List A)) → ((i : ℕ) → i < length lists → option_before lt (first_at lists i) None ≡ false) → concat lists ≡ []
        all_empty [] none = refl
        all_empty ([] ∷ lists) none = all_empty lists (λ i below. none (suc i) (omega (arith, below)))
        all_empty ((x ∷ l) ∷ lists) none = absurd (true≢false (none 0 (omega arith)))
