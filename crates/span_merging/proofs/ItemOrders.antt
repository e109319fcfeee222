-- Items by their places, in order: the numbers of the places, of which the first is that of the least item.
use Rattle.std.proofs.Common.{◌≡◌, ◌≢◌, refl, sym, ap, subst, arith, ◌∙◌, ℕ, ◌+◌, ◌<◌, ◌≤◌, inl, inr, zero, suc, Bool, true, false, cond, not, List, [], ◌∷◌, ◌++◌, drop, get_or, length, take, true≢false}
use Rattle.std.specs.Prelude.{IfSome, nat_lt, slice_get}
use Rattle.std.specs.Cmp.{IsStrictWeakOrder}
use Rattle.std.specs.List.{AllByRecursion}
use Rattle.std.proofs.lemmas.Bool.{true_from_ne_false}
use Rattle.std.proofs.lemmas.Bool.Decides.{nat_tests}
use Rattle.span_value.proofs.Lists.{all_at, all_weaker}
use Rattle.span_query.specs.Sorting.{insert_sorted}
use Rattle.span_sorting.specs.Orders.{IsIn, IsOrderBelow, IsStrictlySorted, item_before}
use Rattle.span_merging.proofs.Merging.{IsLeast}
use Rattle.span_sorting.proofs.Order.{irreflexive}
use Rattle.span_sorting.proofs.Sorting.{all_placed}

all_in : {A : Type 0} (P : A → Type 0) (x : A) (ys : List A) → AllByRecursion P ys → IsIn x ys → P x
all_in P x [] all is = absurd is
all_in P x (y ∷ ys) all (inl e) = subst P (sym e) all.0
all_in P x (y ∷ ys) all (inr is) = all_in P x ys all.1 is

placed_in : {A : Type 0} (before : A → A → Bool) (x k : A) (ys : List A) → IsIn x (k ∷ ys) → IsIn x (insert_sorted before k ys)
placed_in before x k [] is = is
placed_in before x k (y ∷ ys) is = elim (before y k) as (λ b. IsIn x (cond b (y ∷ insert_sorted before k ys) (k ∷ y ∷ ys))) [
  | true ↦ later (placed_in before x k ys) is
  | false ↦ is
]
  where
    later : (IsIn x (k ∷ ys) → IsIn x (insert_sorted before k ys)) → IsIn x (k ∷ y ∷ ys) → IsIn x (y ∷ insert_sorted before k ys)
    later rest (inl e) = inr (rest (inl e))
    later rest (inr (inl e)) = inl e
    later rest (inr (inr h)) = inr (rest (inr h))

below_or_not : (P : Type 0) (i j : ℕ) → (i < j → P) → (j ≤ i → P) → P
below_or_not P i j less not_less = elim (nat_lt i j) as (λ b. nat_lt i j ≡ b → P) [
  | true ↦ λ e. less (grind (arith, nat_tests, e))
  | false ↦ λ e. not_less (grind (arith, nat_tests, e))
] refl

not_true : (b : Bool) → not b ≡ true → b ≡ false
not_true true e = absurd (true≢false (sym e))
not_true false e = refl

not_false : (b : Bool) → not b ≡ false → b ≡ true
not_false true e = refl
not_false false e = absurd (true≢false e)

module _ {X : Type 0} (lt : X → X → Bool) (items : ℕ → X) where
  where_below : (i j : ℕ) → i < j → item_before lt items i j ≡ not (lt (items j) (items i))
  where_below i j less =
      let e : nat_lt i j ≡ true = grind (arith, nat_tests, less) in
      ap (λ (b : Bool). cond b (not (lt (items j) (items i))) (lt (items i) (items j))) e

  where_not : (i j : ℕ) → j ≤ i → item_before lt items i j ≡ lt (items i) (items j)
  where_not i j le =
      let e : nat_lt i j ≡ false = grind (arith, nat_tests, le) in
      ap (λ (b : Bool). cond b (not (lt (items j) (items i))) (lt (items i) (items j))) e

  module _ (o : IsStrictWeakOrder lt) where
    abbrev before : ℕ → ℕ → Bool
    before i j = item_before lt items i j

    not_itself : (i : ℕ) → before i i ≡ false
    not_itself i = where_not i i (omega arith) ∙ irreflexive lt o (items i)

    none_after : (i j : ℕ) → before i j ≡ true → lt (items j) (items i) ≡ false
    none_after i j e = below_or_not (lt (items j) (items i) ≡ false) i j
        (λ less. not_true (lt (items j) (items i)) (sym (where_below i j less) ∙ e))
        (λ le. o.one_way (items i) (items j) (sym (where_not i j le) ∙ e))

    chained : (i j k : ℕ) → before i j ≡ true → before j k ≡ true → before i k ≡ true
    chained i j k e f = below_or_not (before i k ≡ true) i k
        (λ less. where_below i k less ∙ ap not (o.chain (items k) (items j) (items i) (none_after j k f) (none_after i j e)))
        (λ le. where_not i k le ∙ true_from_ne_false (lt (items i) (items k)) (λ h. below_or_not ⊥ i j
        (λ less. true≢false (sym f ∙ where_not j k (omega (arith, less, le)) ∙ o.chain (items j) (items i) (items k) (none_after i j e) h))
        (λ more. true≢false (sym e ∙ where_not i j more ∙ o.chain (items i) (items k) (items j) h (none_after j k f)))))

    other_way : (i j : ℕ) → i ≢ j → before i j ≡ false → before j i ≡ true
    other_way i j differ e = below_or_not (before j i ≡ true) i j
        (λ less. where_not j i (omega (arith, less)) ∙ not_false (lt (items j) (items i)) (sym (where_below i j less) ∙ e))
        (λ le. where_below j i (omega (arith, le, differ)) ∙ ap not (sym (where_not i j le) ∙ e))

    put_rising : (k : ℕ) (order : List ℕ) → IsStrictlySorted before order → AllByRecursion (λ j. j ≢ k) order → IsStrictlySorted before (insert_sorted before k order)
    put_rising k [] up apart = (tt, tt)
    put_rising k (j ∷ order) up apart = elim (before j k) as (λ b. before j k ≡ b → IsStrictlySorted before (cond b (j ∷ insert_sorted before k order) (k ∷ j ∷ order))) [
      | true ↦ λ e. (all_placed before (λ i. before j i ≡ true) k order e up.0, put_rising k order up.1 apart.1)
      | false ↦ λ e.
          let first : before k j ≡ true = other_way j k apart.0 e in
          ((first, all_weaker (λ i. before j i ≡ true) (λ i. before k i ≡ true) (λ i f. chained k j i first f) order up.0), up)
    ] refl

    pub put_in_order : (count k : ℕ) (order : List ℕ) → k < count → AllByRecursion (λ i. i < count) order → ((i : ℕ) → i < count → IsIn i (k ∷ order))
        → IsStrictlySorted before order → AllByRecursion (λ j. j ≢ k) order → IsOrderBelow count before (insert_sorted before k order)
    put_in_order count k order within others whole up apart = record {
      within = all_placed before (λ i. i < count) k order within others;
      whole = λ i below. placed_in before i k order (whole i below);
      rising = put_rising k order up apart;
    }

    -- the first in order is the least
    pub first_is_least : (count k : ℕ) (order : List ℕ) → IsOrderBelow count before (k ∷ order) → IsLeast lt items count k
    first_is_least count k order is = record {
      within = is.within.0;
      none = λ i below. of_all i (is.whole i below);
      first = λ i less. strict i less (is.whole i (omega (arith, less, is.within.0)));
    }
      where
        of_all : (i : ℕ) → IsIn i (k ∷ order) → lt (items i) (items k) ≡ false
        of_all i (inl e) = subst (λ (n : ℕ). lt (items n) (items k) ≡ false) (sym e) (irreflexive lt o (items k))
        of_all i (inr h) = none_after k i (all_in (λ j. before k j ≡ true) i order is.rising.0 h)

        strict : (i : ℕ) → i < k → IsIn i (k ∷ order) → lt (items k) (items i) ≡ true
        strict i less (inl e) = absurd (omega (arith, less, e))
        strict i less (inr h) = sym (where_not k i (omega (arith, less))) ∙ all_in (λ j. before k j ≡ true) i order is.rising.0 h

    -- one more
    pub order_more : (count : ℕ) (order : List ℕ) → IsOrderBelow count before order → IsOrderBelow (count + 1) before (insert_sorted before count order)
    order_more count order is =
        put_in_order (count + 1) count order (omega arith)
        (all_weaker (λ i. i < count) (λ i. i < count + 1) (λ i less. omega (arith, less)) order is.within)
        (λ i below. below_or_not (IsIn i (count ∷ order)) i count (λ less. inr (is.whole i less)) (λ le. inl (omega (arith, le, below))))
        is.rising
        (all_weaker (λ i. i < count) (λ i. i ≢ count) (λ i less e. omega (arith, less, e)) order is.within)

    apart_from : (k : ℕ) (order : List ℕ) → AllByRecursion (λ j. before k j ≡ true) order → AllByRecursion (λ j. j ≢ k) order
    apart_from k order up = all_weaker (λ j. before k j ≡ true) (λ j. j ≢ k) (λ j e same. true≢false (sym e ∙ ap (before k) same ∙ not_itself k)) order up

    -- what precedes an item of the list, or is this one, comes before what the item comes before
    pub front_before : (order : List ℕ) (m k d : ℕ) → m < length order → IsStrictlySorted before order → before (get_or order m d) k ≡ true
        → AllByRecursion (λ j. before j k ≡ true) (take (suc m) order)
    front_before [] m k d within up e = absurd (omega (arith, within))
    front_before (j ∷ order) zero k d within up e = (e, tt)
    front_before (j ∷ order) (suc m) k d within up e = (
      chained j (get_or order m d) k (all_at (λ i. before j i ≡ true) order m d (omega (arith, within)) up.0) e,
      front_before order m k d (omega (arith, within)) up.1 e,
    )

-- an item goes after those that come before it, and before the next one, which does not
pub put_at : {A : Type 0} (before : A → A → Bool) (x : A) (ys : List A) (at : ℕ) → AllByRecursion (λ y. before y x ≡ true) (take at ys)
    → IfSome (slice_get ys at) (λ y. before y x ≡ false) → insert_sorted before x ys ≡ take at ys ++ x ∷ drop at ys
put_at before x [] zero front next = refl
put_at before x [] (suc at) front next = refl
put_at before x (y ∷ ys) zero front next = ap (λ (b : Bool). cond b (y ∷ insert_sorted before x ys) (x ∷ y ∷ ys)) next
put_at {A} before x (y ∷ ys) (suc at) front next =
    ap (λ (b : Bool). cond b (y ∷ insert_sorted before x ys) (x ∷ y ∷ ys)) front.0
    ∙ ap (λ (l : List A). y ∷ l) (put_at before x ys at front.1 next)

pub if_there : {A : Type 0} (P : A → Type 0) (xs : List A) (m : ℕ) (d : A) → m < length xs → P (get_or xs m d) → IfSome (slice_get xs m) P
if_there P [] m d within p = absurd (omega (arith, within))
if_there P (x ∷ xs) zero d within p = p
if_there P (x ∷ xs) (suc m) d within p = if_there P xs m d (omega (arith, within)) p

-- ---- another item at the first place

module _ {X : Type 0} (lt : X → X → Bool) (o : IsStrictWeakOrder lt) (old new : ℕ → X) (k : ℕ) (others : (i : ℕ) → i ≢ k → new i ≡ old i) where
  rising_still : (order : List ℕ) → AllByRecursion (λ j. j ≢ k) order → IsStrictlySorted (item_before lt old) order → IsStrictlySorted (item_before lt new) order
  rising_still [] apart up = tt
  rising_still (j ∷ order) apart up = (after order apart.1 up.0, rising_still order apart.1 up.1)
    where
      after : (rest : List ℕ) → AllByRecursion (λ i. i ≢ k) rest → AllByRecursion (λ i. item_before lt old j i ≡ true) rest → AllByRecursion (λ i. item_before lt new j i ≡ true) rest
      after [] far up = tt
      after (i ∷ rest) far up = (
        ap (λ (x : X). cond (nat_lt j i) (not (lt (new i) x)) (lt x (new i))) (others j apart.0)
            ∙ ap (λ (x : X). cond (nat_lt j i) (not (lt x (old j))) (lt (old j) x)) (others i far.0)
            ∙ up.0,
        after rest far.1 up.1,
      )

  pub others_sorted : (count : ℕ) (order : List ℕ) → IsOrderBelow count (item_before lt old) (k ∷ order) → IsStrictlySorted (item_before lt new) order
  others_sorted count order is = rising_still order (apart_from lt old o k order is.rising.0) is.rising.1

  pub order_moved : (count : ℕ) (order : List ℕ) → IsOrderBelow count (item_before lt old) (k ∷ order)
      → IsOrderBelow count (item_before lt new) (insert_sorted (item_before lt new) k order)
  order_moved count order is =
      let apart : AllByRecursion (λ j. j ≢ k) order = apart_from lt old o k order is.rising.0 in
      put_in_order lt new o count k order is.within.0 is.within.1 is.whole (rising_still order apart is.rising.1) apart
