-- A row placed among rows that are in order.
use Rattle.std.proofs.Common.{◌≡◌, Bool, true, false, List, [], ◌∷◌, ◌++◌, refl, sym, ap, subst, ◌∙◌}
use Rattle.std.specs.List.{filter, AllByRecursion}
use Rattle.std.specs.declared.cmp.Ordering.{Ordering}
use Rattle.std.specs.declared.cmp.Ordering.TheVariants.{Less, Equal, Greater}
use Rattle.std.specs.Ordering.{ordering_reverse, is_lt, is_gt}
use Rattle.std.specs.Cmp.{IsTotalOrder}
use Rattle.std.proofs.lemmas.List.Elements.{filter-append}
use Rattle.span_mutate.specs.Directories.{IsRising}
use Rattle.span_mutate.proofs.Filters.{filter_yes, filter_no}
use Rattle.span_value.proofs.Comparisons.{is_less, is_greater}
use Rattle.span_value.proofs.Lists.{all_filter, filter_swap}

-- what is kept of items in order is in order
pub rising_filter : {X : Type 0} (R : X → X → Ordering) (p : X → Bool) (xs : List X) → IsRising R xs → IsRising R (filter p xs)
rising_filter R p [] h = tt
rising_filter {X} R p (x ∷ xs) h = cases (rising_filter R p xs h.1) (p x) refl
  where
    cases : IsRising R (filter p xs) → (b : Bool) → p x ≡ b → IsRising R (filter p (x ∷ xs))
    cases again true e = subst (IsRising R) (sym (filter_yes p x xs e)) (all_filter (λ y. R x y ≡ Less) p xs h.0, again)
    cases again false e = subst (IsRising R) (sym (filter_no p x xs e)) again

-- the items before one, itself, and the items after it
abbrev pub put : {X : Type 0} → (X → X → Ordering) → X → List X → List X
put R r xs = filter (λ x. is_lt (R x r)) xs ++ r ∷ filter (λ x. is_gt (R x r)) xs

-- what passes stays in its place
pub put_kept : {X : Type 0} (R : X → X → Ordering) (p : X → Bool) (r : X) (xs : List X) → p r ≡ true → filter p (put R r xs) ≡ put R r (filter p xs)
put_kept {X} R p r xs h =
    filter-append p (filter (λ x. is_lt (R x r)) xs) (r ∷ filter (λ x. is_gt (R x r)) xs)
    ∙ ap (λ (l : List X). filter p (filter (λ x. is_lt (R x r)) xs) ++ l) (filter_yes p r (filter (λ x. is_gt (R x r)) xs) h)
    ∙ ap (λ (l : List X). l ++ r ∷ filter p (filter (λ x. is_gt (R x r)) xs)) (filter_swap p (λ x. is_lt (R x r)) xs)
    ∙ ap (λ (l : List X). filter (λ x. is_lt (R x r)) (filter p xs) ++ r ∷ l) (filter_swap p (λ x. is_gt (R x r)) xs)

abbrev AllGreater : {X : Type 0} → (X → X → Ordering) → X → List X → Type 0
AllGreater R r xs = AllByRecursion (λ x. R x r ≡ Greater) xs

none_less : {X : Type 0} (R : X → X → Ordering) (r : X) (xs : List X) → AllGreater R r xs → filter (λ x. is_lt (R x r)) xs ≡ []
none_less R r [] h = refl
none_less R r (x ∷ xs) h = filter_no (λ x. is_lt (R x r)) x xs (ap is_lt h.0) ∙ none_less R r xs h.1

all_greater : {X : Type 0} (R : X → X → Ordering) (r : X) (xs : List X) → AllGreater R r xs → filter (λ x. is_gt (R x r)) xs ≡ xs
all_greater R r [] h = refl
all_greater {X} R r (x ∷ xs) h = filter_yes (λ x. is_gt (R x r)) x xs (ap is_gt h.0) ∙ ap (λ (l : List X). x ∷ l) (all_greater R r xs h.1)

-- what follows an item that is not before r is after r
after_it : {X : Type 0} {R : X → X → Ordering} → IsTotalOrder R → (r x y : X) → R x y ≡ Less → R x r ≡ Greater → R y r ≡ Greater
after_it {R = R} total r x y less g = total.antisymm y r ∙ ap ordering_reverse (total.trans r x y (total.antisymm r x ∙ ap ordering_reverse g) less)

after_same : {X : Type 0} {R : X → X → Ordering} → IsTotalOrder R → (r x y : X) → R x y ≡ Less → R x r ≡ Equal → R y r ≡ Greater
after_same {R = R} total r x y less e = total.antisymm y r ∙ ap ordering_reverse (sym (total.congr x r y e) ∙ less)

all_after : {X : Type 0} (R : X → X → Ordering) (r x : X) (xs : List X) → ((y : X) → R x y ≡ Less → R y r ≡ Greater) → AllByRecursion (λ y. R x y ≡ Less) xs → AllGreater R r xs
all_after R r x [] h a = tt
all_after R r x (y ∷ ys) h a = (h y a.0, all_after R r x ys h a.1)

abbrev parts : {X : Type 0} → (X → X → Ordering) → (X → Bool) → X → List X → List X
parts R p r l = filter p (filter (λ x. is_lt (R x r)) l) ++ filter p (filter (λ x. is_gt (R x r)) l)

abbrev AllBefore : {X : Type 0} → (X → X → Ordering) → X → List X → Type 0
AllBefore R r l = AllByRecursion (λ x. R x r ≡ Less) l

abbrev AllAfter : {X : Type 0} → (X → X → Ordering) → X → List X → Type 0
AllAfter R r l = AllByRecursion (λ y. R r y ≡ Less) l

-- what does not pass leaves no trace where the items are in order
pub put_lost : {X : Type 0} (R : X → X → Ordering) → IsTotalOrder R → (p : X → Bool) (r : X) → p r ≡ false → ((x : X) → R x r ≡ Equal → p x ≡ false) → (xs : List X) → IsRising R xs
    → filter p (put R r xs) ≡ filter p xs
put_lost {X} R total p r gone same xs sorted =
    filter-append p (filter (λ x. is_lt (R x r)) xs) (r ∷ filter (λ x. is_gt (R x r)) xs)
    ∙ ap (λ (l : List X). filter p (filter (λ x. is_lt (R x r)) xs) ++ l) (filter_no p r (filter (λ x. is_gt (R x r)) xs) gone)
    ∙ joined xs sorted
  where
    joined : (l : List X) → IsRising R l → parts R p r l ≡ filter p l
    joined [] h = refl
    joined (x ∷ l) h = cases (joined l h.1) (R x r) refl
      where
        parts_of : (a b : List X) → filter (λ x. is_lt (R x r)) (x ∷ l) ≡ a → filter (λ x. is_gt (R x r)) (x ∷ l) ≡ b → parts R p r (x ∷ l) ≡ filter p a ++ filter p b
        parts_of a b e f = ap (λ (m : List X). filter p m ++ filter p (filter (λ x. is_gt (R x r)) (x ∷ l))) e ∙ ap (λ (m : List X). filter p a ++ filter p m) f

        cases : parts R p r l ≡ filter p l → (o : Ordering) → R x r ≡ o → parts R p r (x ∷ l) ≡ filter p (x ∷ l)
        cases again Less e = parts_of (x ∷ filter (λ x. is_lt (R x r)) l) (filter (λ x. is_gt (R x r)) l)
            (filter_yes (λ x. is_lt (R x r)) x l (ap is_lt e)) (filter_no (λ x. is_gt (R x r)) x l (ap is_gt e))
            ∙ front (p x) refl
          where
            front : (b : Bool) → p x ≡ b → filter p (x ∷ filter (λ x. is_lt (R x r)) l) ++ filter p (filter (λ x. is_gt (R x r)) l) ≡ filter p (x ∷ l)
            front true f = ap (λ (m : List X). m ++ filter p (filter (λ x. is_gt (R x r)) l)) (filter_yes p x _ f) ∙ ap (λ (m : List X). x ∷ m) again ∙ sym (filter_yes p x l f)
            front false f = ap (λ (m : List X). m ++ filter p (filter (λ x. is_gt (R x r)) l)) (filter_no p x _ f) ∙ again ∙ sym (filter_no p x l f)
        cases again Equal e =
            let after = all_after R r x l (λ y less. after_same total r x y less e) h.0 in
            parts_of [] l
            (filter_no (λ x. is_lt (R x r)) x l (ap is_lt e) ∙ none_less R r l after) (filter_no (λ x. is_gt (R x r)) x l (ap is_gt e) ∙ all_greater R r l after)
            ∙ sym (filter_no p x l (same x e))
        cases again Greater e =
            let after = all_after R r x l (λ y less. after_it total r x y less e) h.0 in
            parts_of [] (x ∷ l)
            (filter_no (λ x. is_lt (R x r)) x l (ap is_lt e) ∙ none_less R r l after)
            (filter_yes (λ x. is_gt (R x r)) x l (ap is_gt e) ∙ ap (λ (m : List X). x ∷ m) (all_greater R r l after))

-- the items in order stay in order
pub put_in_order : {X : Type 0} (R : X → X → Ordering) → IsTotalOrder R → (r : X) (xs : List X) → IsRising R xs → IsRising R (put R r xs)
put_in_order {X} R total r xs sorted =
    join (filter (λ x. is_lt (R x r)) xs) (fronts xs) (rising_filter R (λ x. is_lt (R x r)) xs sorted)
  where
    fronts : (l : List X) → AllByRecursion (λ x. R x r ≡ Less) (filter (λ x. is_lt (R x r)) l)
    fronts [] = tt
    fronts (x ∷ l) = cases (fronts l) (is_lt (R x r)) refl
      where
        cases : AllBefore R r (filter (λ x. is_lt (R x r)) l) → (b : Bool) → is_lt (R x r) ≡ b → AllBefore R r (filter (λ x. is_lt (R x r)) (x ∷ l))
        cases again true e = subst (AllBefore R r) (sym (filter_yes (λ x. is_lt (R x r)) x l e)) (is_less (R x r) e, again)
        cases again false e = subst (AllBefore R r) (sym (filter_no (λ x. is_lt (R x r)) x l e)) again

    backs : (l : List X) → AllByRecursion (λ y. R r y ≡ Less) (filter (λ x. is_gt (R x r)) l)
    backs [] = tt
    backs (x ∷ l) = cases (backs l) (is_gt (R x r)) refl
      where
        cases : AllAfter R r (filter (λ x. is_gt (R x r)) l) → (b : Bool) → is_gt (R x r) ≡ b → AllAfter R r (filter (λ x. is_gt (R x r)) (x ∷ l))
        cases again true e = subst (AllAfter R r) (sym (filter_yes (λ x. is_gt (R x r)) x l e)) (total.antisymm r x ∙ ap ordering_reverse (is_greater (R x r) e), again)
        cases again false e = subst (AllAfter R r) (sym (filter_no (λ x. is_gt (R x r)) x l e)) again

    through : (x : X) → R x r ≡ Less → (l : List X) → AllByRecursion (λ y. R r y ≡ Less) l → AllByRecursion (λ y. R x y ≡ Less) l
    through x e [] h = tt
    through x e (y ∷ l) h = (total.trans x r y e h.0, through x e l h.1)

    both : (x : X) (l m : List X) → AllByRecursion (λ y. R x y ≡ Less) l → AllByRecursion (λ y. R x y ≡ Less) m → AllByRecursion (λ y. R x y ≡ Less) (l ++ m)
    both x [] m h g = g
    both x (y ∷ l) m h g = (h.0, both x l m h.1 g)

    join : (l : List X) → AllByRecursion (λ x. R x r ≡ Less) l → IsRising R l → IsRising R (l ++ r ∷ filter (λ x. is_gt (R x r)) xs)
    join [] h s = (backs xs, rising_filter R (λ x. is_gt (R x r)) xs sorted)
    join (x ∷ l) h s = (both x l (r ∷ filter (λ x. is_gt (R x r)) xs) s.0 (h.0, through x h.0 (filter (λ x. is_gt (R x r)) xs) (backs xs)), join l h.1 s.1)

-- what holds of an item and of others holds of all of them
pub put_all : {X : Type 0} (P : X → Type 0) (R : X → X → Ordering) (r : X) (xs : List X) → P r → AllByRecursion P xs → AllByRecursion P (put R r xs)
put_all {X} P R r xs h each = join (filter (λ x. is_lt (R x r)) xs) (all_filter P (λ x. is_lt (R x r)) xs each)
  where
    join : (l : List X) → AllByRecursion P l → AllByRecursion P (l ++ r ∷ filter (λ x. is_gt (R x r)) xs)
    join [] g = (h, all_filter P (λ x. is_gt (R x r)) xs each)
    join (x ∷ l) g = (g.0, join l g.1)
