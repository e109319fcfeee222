-- Lists of numbers put together: the least of those that are next is the next of all.
use Rattle.std.proofs.Common.{◌≡◌, ◌≢◌, ◌⊎◌, ℕ, ◌+◌, ◌<◌, ◌≤◌, ◌==◌, zero, suc, Bool, true, false, cond, List, [], ◌∷◌, ◌++◌, length, get_or, set, map, drop, replicate, Option, Some, None, refl, sym, ap, ◌∙◌, subst, inl, inr, arith}
use Rattle.std.specs.List.{AllByRecursion, filter}
use Rattle.std.specs.Option.{MatchOption}
use Rattle.std.proofs.lemmas.Bool.{cases_eq, eqb-true, eq-eqb}
use Rattle.std.proofs.lemmas.List.{map-append, append_assoc, append-nil, get_or-set_same, get_or-set_other, length-replicate, length-set}
use Rattle.std.proofs.lemmas.Option.{same_Some}
use Rattle.span_merging.specs.declared.parts.PartPlace.{PartPlace}
use Rattle.span_classes.specs.Merging.{list_at, number_in, numbers_in, IsNumberIn, IsAscending, of_class, AreParted, AreMerged, taken_at, next_at, Head, HasLeft, IsHead, IsLeastOf, AreLeft, HasRest, AreMergedTo}

-- ---- lists from a place on

pub any_default : {X : Type 0} (xs : List X) (i : ℕ) (d e : X) → i < length xs → get_or xs i d ≡ get_or xs i e
any_default [] i d e less = absurd (omega arith)
any_default (x ∷ xs) zero d e less = refl
any_default (x ∷ xs) (suc i) d e less = any_default xs i d e (omega arith)

-- what a list has from a place on begins with the item there
pub record BeginsAt {X : Type 0} (n : ℕ) (xs : List X) (d x : X) (ys : List X) : Type 0 where
  pub within : n < length xs
  pub item : get_or xs n d ≡ x
  pub rest : drop (suc n) xs ≡ ys

pub begins_at : {X : Type 0} (n : ℕ) (xs : List X) (d x : X) (ys : List X) → drop n xs ≡ x ∷ ys → BeginsAt n xs d x ys
begins_at zero [] d x ys e = absurd cc
begins_at {X = X} zero (z ∷ xs) d x ys e =
    let head : z ≡ x = cc in
    let tail : xs ≡ ys = cc in
    record { within = omega arith; item = head; rest = tail }
begins_at (suc n) [] d x ys e = absurd cc
begins_at (suc n) (z ∷ xs) d x ys e =
    let rec = begins_at n xs d x ys e in
    record { within = omega (arith, rec.within); item = rec.item; rest = rec.rest }

-- and there is one where the place is within it
pub record HasItem {X : Type 0} (n : ℕ) (xs : List X) : Type 0 where
  pub item : X
  pub others : List X
  pub is : drop n xs ≡ item ∷ others

pub has_item : {X : Type 0} (n : ℕ) (xs : List X) → n < length xs → HasItem n xs
has_item n [] less = absurd (omega arith)
has_item zero (x ∷ xs) less = record { item = x; others = xs; is = refl }
has_item (suc n) (x ∷ xs) less = let rec = has_item n xs (omega arith) in record { item = rec.item; others = rec.others; is = rec.is }

-- ---- numbers that ascend

pub ascending_end : (xs ys : List ℕ) → IsAscending (xs ++ ys) → IsAscending ys
ascending_end [] ys a = a
ascending_end (x ∷ xs) ys a = ascending_end xs ys a.1

pub all_end : {X : Type 0} (P : X → Type 0) (xs ys : List X) → AllByRecursion P (xs ++ ys) → AllByRecursion P ys
all_end P [] ys a = a
all_end P (x ∷ xs) ys a = all_end P xs ys a.1

-- those of a class begin with a number that is not less than the first of all
later_first : (class_of : ℕ → ℕ) (part n : ℕ) (ns : List ℕ) (m : ℕ) (ms : List ℕ) → AllByRecursion (λ (k : ℕ). n < k) ns → of_class class_of part ns ≡ m ∷ ms → n < m
later_first class_of part n [] m ms all e = absurd cc
later_first class_of part n (k ∷ ns) m ms all e = elim (class_of k == part) as (λ b. cond b (k ∷ of_class class_of part ns) (of_class class_of part ns) ≡ m ∷ ms → n < m) [
  | true ↦ λ h. let is : k ≡ m = cc in omega (arith, all.0, is)
  | false ↦ λ h. later_first class_of part n ns m ms all.1 h
] e

pub of_its_class : (class_of : ℕ → ℕ) (n : ℕ) (ns : List ℕ) → of_class class_of (class_of n) (n ∷ ns) ≡ n ∷ of_class class_of (class_of n) ns
of_its_class class_of n ns = ap (λ b. cond b (n ∷ of_class class_of (class_of n) ns) (of_class class_of (class_of n) ns)) (eq-eqb (class_of n) (class_of n) refl)

of_other_class : (class_of : ℕ → ℕ) (part n : ℕ) (ns : List ℕ) → part ≢ class_of n → of_class class_of part (n ∷ ns) ≡ of_class class_of part ns
of_other_class class_of part n ns other = elim (class_of n == part) as (λ b. (class_of n == part) ≡ b → cond b (n ∷ of_class class_of part ns) (of_class class_of part ns) ≡ of_class class_of part ns) [
  | true ↦ λ e. absurd (other (sym (eqb-true (class_of n) part e)))
  | false ↦ λ e. refl
] refl

-- ---- one step

abbrev pub place_of_head : List ℕ → Head → PartPlace
place_of_head taken head = record { part = head.part; place = taken_at taken head.part }

abbrev pub taken_after : List ℕ → Head → List ℕ
taken_after taken head = set taken head.part (taken_at taken head.part + 1)

module _ (lists : List (List ℕ)) (taken : List ℕ) (class_of : ℕ → ℕ) where
  abbrev class_next : ℕ → List ℕ → Type 0
  class_next n rest = AllByRecursion (λ (m : ℕ). class_of m < length lists) (n ∷ rest)

  -- none is left where no list has one left
  pub none_left : (rest : List ℕ) → AreLeft class_of rest lists taken → AllByRecursion (λ (m : ℕ). class_of m < length lists) rest
      → ((part : ℕ) → part < length lists → length (list_at lists part) ≤ taken_at taken part) → rest ≡ []
  none_left [] left few ends = refl
  none_left (n ∷ rest) left few ends =
      let begins = begins_at (taken_at taken (class_of n)) (list_at lists (class_of n)) 0 n (of_class class_of (class_of n) rest) (left (class_of n) few.0 ∙ of_its_class class_of n rest) in
      absurd (omega (arith, begins.within, ends (class_of n) few.0))

  module _ (head : Head) (least : IsLeastOf lists taken head) where
    abbrev own : List ℕ
    own = list_at lists head.part

    -- the least of the next is the first of what is left
    pub record IsFirstOf (rest : List ℕ) : Type 0 where
      pub others : List ℕ
      pub is : rest ≡ head.first ∷ others
      pub class : class_of head.first ≡ head.part

    first_by : (n : ℕ) (rest : List ℕ) (b : Bool) → (class_of n == head.part) ≡ b → IsAscending (n ∷ rest) → head.first ≤ n
        → drop (taken_at taken head.part) own ≡ cond b (n ∷ of_class class_of head.part rest) (of_class class_of head.part rest) → IsFirstOf (n ∷ rest)
    first_by n rest true same ascending most left =
        let begins = begins_at (taken_at taken head.part) own 0 n (of_class class_of head.part rest) left in
        let is : n ≡ head.first = sym (least.is.first ∙ begins.item) in
        record { others = rest; is = ap (λ (k : ℕ). k ∷ rest) is; class = ap class_of (sym is) ∙ eqb-true (class_of n) head.part same }
    first_by n rest false same ascending most left =
        let own_next = has_item (taken_at taken head.part) own least.is.left in
        let begins = begins_at (taken_at taken head.part) own 0 own_next.item own_next.others own_next.is in
        let after : n < own_next.item = later_first class_of head.part n rest own_next.item own_next.others ascending.0 (sym left ∙ own_next.is) in
        absurd (omega (arith, after, most, least.is.first, begins.item))

    pub is_first : (rest : List ℕ) → AreLeft class_of rest lists taken → AllByRecursion (λ (m : ℕ). class_of m < length lists) rest → IsAscending rest → IsFirstOf rest
    is_first [] left few ascending =
        let own_next = has_item (taken_at taken head.part) own least.is.left in
        absurd (let clash : own_next.item ∷ own_next.others ≡ [] = sym own_next.is ∙ left head.part least.is.part in cc)
    is_first (n ∷ rest) left few ascending =
        let begins = begins_at (taken_at taken (class_of n)) (list_at lists (class_of n)) 0 n (of_class class_of (class_of n) rest) (left (class_of n) few.0 ∙ of_its_class class_of n rest) in
        let most : head.first ≤ n = omega (arith, least.least (class_of n) few.0 begins.within, begins.item) in
        first_by n rest (class_of n == head.part) refl ascending most (left head.part least.is.part)

    -- what is left after it
    pub left_after : (rest : List ℕ) → length taken ≡ length lists → class_of head.first ≡ head.part → AreLeft class_of (head.first ∷ rest) lists taken → AreLeft class_of rest lists (taken_after taken head)
    left_after rest counted class left part within = elim (cases_eq part head.part) [
      | inl same ↦
          let begins = begins_at (taken_at taken head.part) own 0 head.first (of_class class_of head.part rest)
          (left head.part least.is.part ∙ subst (λ (c : ℕ). of_class class_of c (head.first ∷ rest) ≡ head.first ∷ of_class class_of c rest) class (of_its_class class_of head.first rest)) in
          let count : taken_at (taken_after taken head) head.part ≡ taken_at taken head.part + 1 = get_or-set_same taken head.part (taken_at taken head.part + 1) 0 (omega (arith, least.is.part, counted)) in
          subst (λ (p : ℕ). drop (taken_at (taken_after taken head) p) (list_at lists p) ≡ of_class class_of p rest) (sym same)
          (ap (λ (n : ℕ). drop n own) (let next : taken_at (taken_after taken head) head.part ≡ suc (taken_at taken head.part) = omega (arith, count) in next) ∙ begins.rest)
      | inr other ↦
          ap (λ (n : ℕ). drop n (list_at lists part)) (get_or-set_other taken head.part part (taken_at taken head.part + 1) 0 other)
          ∙ left part within
          ∙ of_other_class class_of part head.first rest (λ same. other (same ∙ class))
    ]

-- ---- the places so far

drop_none : {X : Type 0} (xs : List X) → drop zero xs ≡ xs
drop_none [] = refl
drop_none (x ∷ xs) = refl

pub merged_none : (lists : List (List ℕ)) (taken : List ℕ) → length taken ≡ length lists → ((part : ℕ) → taken_at taken part ≡ zero) → AreMergedTo lists taken []
merged_none lists taken counted none = record {
  counted = counted;
  within = tt;
  rests = λ class_of numbers parted. record {
    rest = numbers;
    whole = refl;
    left = λ part within. ap (λ (n : ℕ). drop n (list_at lists part)) (none part) ∙ drop_none (list_at lists part) ∙ parted.each part within;
  };
}

zeros : (n part : ℕ) → get_or (replicate n zero) part zero ≡ zero
zeros zero part = refl
zeros (suc n) zero = refl
zeros (suc n) (suc part) = zeros n part

pub merged_start : (lists : List (List ℕ)) (n : ℕ) (taken : List ℕ) (places : List PartPlace) → n ≡ length lists → taken ≡ replicate n zero → places ≡ [] → AreMergedTo lists taken places
merged_start lists n taken places many none empty =
    subst (λ (l : List PartPlace). AreMergedTo lists taken l) (sym empty)
    (merged_none lists taken (ap (λ (l : List ℕ). length l) none ∙ length-replicate n zero ∙ many) (λ part. ap (λ (l : List ℕ). get_or l part zero) none ∙ zeros n part))

all_added : {X : Type 0} (P : X → Type 0) (xs : List X) (x : X) → AllByRecursion P xs → P x → AllByRecursion P (xs ++ x ∷ [])
all_added P [] x all its = (its, tt)
all_added P (y ∷ xs) x all its = (all.0, all_added P xs x all.1 its)

module _ (lists : List (List ℕ)) (taken : List ℕ) (places : List PartPlace) (so_far : AreMergedTo lists taken places) where
  module _ (head : Head) (least : IsLeastOf lists taken head) where
    abbrev its_place : PartPlace
    its_place = place_of_head taken head

    next_rest : (class_of : ℕ → ℕ) (numbers : List ℕ) → AreParted class_of numbers lists → HasRest class_of numbers lists (taken_after taken head) (places ++ its_place ∷ [])
    next_rest class_of numbers parted =
        let now = so_far.rests class_of numbers parted in
        let few = all_end (λ (n : ℕ). class_of n < length lists) (numbers_in lists places) now.rest (subst (λ (l : List ℕ). AllByRecursion (λ (n : ℕ). class_of n < length lists) l) now.whole parted.few) in
        let ascending = ascending_end (numbers_in lists places) now.rest (subst IsAscending now.whole parted.ascending) in
        let first = is_first lists taken class_of head least now.rest now.left few ascending in
        record {
          rest = first.others;
          whole =
              now.whole
              ∙ ap (λ (l : List ℕ). numbers_in lists places ++ l) first.is
              ∙ sym (append_assoc (numbers_in lists places) (head.first ∷ []) first.others)
              ∙ ap (λ (l : List ℕ). l ++ first.others) (ap (λ (n : ℕ). numbers_in lists places ++ n ∷ []) least.is.first ∙ sym (map-append (number_in lists) places (its_place ∷ [])));
          left = left_after lists taken class_of head least first.others so_far.counted first.class (subst (λ (l : List ℕ). AreLeft class_of l lists taken) first.is now.left);
        }

    pub merged_next : AreMergedTo lists (taken_after taken head) (places ++ its_place ∷ [])
    merged_next = record {
      counted = length-set taken head.part (taken_at taken head.part + 1) ∙ so_far.counted;
      within = all_added (IsNumberIn lists) places its_place so_far.within (record { part = least.is.part; place = least.is.left });
      rests = next_rest;
    }

  module _ (ends : (part : ℕ) → part < length lists → length (list_at lists part) ≤ taken_at taken part) where
    all_numbers : (class_of : ℕ → ℕ) (numbers : List ℕ) → AreParted class_of numbers lists → numbers_in lists places ≡ numbers
    all_numbers class_of numbers parted =
        let now = so_far.rests class_of numbers parted in
        let few = all_end (λ (n : ℕ). class_of n < length lists) (numbers_in lists places) now.rest (subst (λ (l : List ℕ). AllByRecursion (λ (n : ℕ). class_of n < length lists) l) now.whole parted.few) in
        sym (now.whole ∙ ap (λ (l : List ℕ). numbers_in lists places ++ l) (none_left lists taken class_of now.rest now.left few ends) ∙ append-nil (numbers_in lists places))

    pub merged_all : AreMerged lists places
    merged_all = record { within = so_far.within; numbers = all_numbers }
