-- The groups of all classes, in the order of their first rows, are the groups of all rows.
use Rattle.std.proofs.Common.{◌≡◌, ◌↔◌, IsTrue, ℕ, ◌<◌, ◌==◌, zero, suc, Bool, true, false, cond, List, [], ◌∷◌, length, get_or, map, Ok, Result, Some, refl, sym, ap, ◌∙◌, subst, arith}
use Rattle.std.specs.List.{AllByRecursion, filter}
use Rattle.std.proofs.lemmas.List.{get_or-map, length-map}
use Rattle.std.proofs.lemmas.Nat.{mod_below}
use Rattle.span_expr.specs.declared.cell.Failure.{Failure}
use Rattle.span_query.specs.declared.query.Grouping.{Grouping}
use Rattle.span_query.specs.Rows.{Row, each}
use Rattle.span_query.specs.Groups.{columns_at, distinct, group_keys, group_row, groups}
use Rattle.span_rows.specs.Keys.{contains_row, place_of}
use Rattle.span_rows.proofs.Places.{place_known}
use Rattle.span_groups.specs.GroupStates.{keys_at}
use Rattle.span_merging.specs.declared.parts.PartPlace.{PartPlace}
use Rattle.span_merging.specs.PartPlaces.{IsPlaceIn, row_in, rows_in}
use Rattle.span_classes.specs.declared.class_groups.ClassGroups.{ClassGroups}
use Rattle.span_classes.specs.Classes.{AreAllClasses, AreClassNumbers, AreGroupsOfClass, AreMade, IsMade, class_at, class_of, first_places, is_in_class, rows_of, rows_of_class}
use Rattle.span_classes.specs.Merging.{AreByClass, AreMerged, AreParted, IsAscending, IsNumberIn, class_at_place, firsts_of, list_at, number_in, numbers_in, of_class}
use Rattle.span_classes.proofs.Firsts.{AreAmong, all_kept, distinct_among, key_found, places_ascend, places_of_class}
use Rattle.span_classes.proofs.Keys.{all_more, each-get, each-length, each-map, each-same, each_alike, groups_of_kind, keys_of_kind}
use Rattle.span_classes.proofs.Taking.{distinct_keys}

pub class_few : (count : ℕ) (key : Row) → 0 < count → class_of count key < count
unfolding class_of
class_few count key some = mod_below _ count some

pub not_empty : {X : Type 0} (xs : List X) (b : Bool) → IsTrue b ↔ (xs ≡ []) → b ≡ false → 0 < length xs
not_empty [] b is none = absurd (let clash : true ≡ false = sym (is.1 refl) ∙ none in cc)
not_empty (x ∷ xs) b is none = omega arith

-- ---- items at places

pub record HasAt {X : Type 0} (xs : List X) (i : ℕ) : Type 0 where
  pub item : X
  pub is : (d : X) → get_or xs i d ≡ item

pub has_at : {X : Type 0} (xs : List X) (i : ℕ) → i < length xs → HasAt xs i
has_at [] i less = absurd (omega arith)
has_at (x ∷ xs) zero less = record { item = x; is = λ d. refl }
has_at (x ∷ xs) (suc i) less = let rec = has_at xs i (omega arith) in record { item = rec.item; is = rec.is }

all_at : {X : Type 0} (P : X → Type 0) (xs : List X) (i : ℕ) (d : X) → AllByRecursion P xs → i < length xs → P (get_or xs i d)
all_at P [] i d all less = absurd (omega arith)
all_at P (x ∷ xs) zero d all less = all.0
all_at P (x ∷ xs) (suc i) d all less = all_at P xs i d all.1 (omega arith)

all_of : {X : Type 0} (P : X → Type 0) (xs : List X) → ((x : X) → P x) → AllByRecursion P xs
all_of P [] each = tt
all_of P (x ∷ xs) each = (each x, all_of P xs each)

all_mapped : {X : Type 0} (f : X → ℕ) (P : X → Type 0) (Q : ℕ → Type 0) → ((x : X) → P x → Q (f x)) → (xs : List X) → AllByRecursion P xs → AllByRecursion Q (map f xs)
all_mapped f P Q more [] all = tt
all_mapped f P Q more (x ∷ xs) all = (more x all.0, all_mapped f P Q more xs all.1)

-- those of a class are the same by two numberings that agree at all of them
same_of_class : (f h : ℕ → ℕ) (part : ℕ) (ns : List ℕ) → AllByRecursion (λ (n : ℕ). f n ≡ h n) ns → of_class f part ns ≡ of_class h part ns
same_of_class f h part [] all = refl
same_of_class f h part (n ∷ ns) all =
    ap (λ (m : ℕ). cond (m == part) (n ∷ of_class f part ns) (of_class f part ns)) all.0
    ∙ ap (λ (l : List ℕ). cond (h n == part) (n ∷ l) l) (same_of_class f h part ns all.1)

-- what was made of each class, where nothing failed
pub classes_made : (g : Grouping) (rows : List Row) (made : List (Result ClassGroups Failure)) (classes : List ClassGroups) → made ≡ map (λ (x : ClassGroups). Ok x) classes
    → AreMade g rows (length made) made → AreAllClasses g rows (length made) classes
classes_made g rows made classes is all =
    let counted : length classes ≡ length made = sym (ap (λ (l : List (Result ClassGroups Failure)). length l) is ∙ length-map classes (λ (x : ClassGroups). Ok x)) in
    record {
      counted = counted;
      each = λ number d within.
          subst (IsMade g rows (length made) number)
          (ap (λ (l : List (Result ClassGroups Failure)). get_or l number (Ok d)) is ∙ get_or-map (λ (x : ClassGroups). Ok x) classes number d (Ok d) (omega (arith, within, counted)))
          (all.each number (Ok d) within);
    }

module _ (g : Grouping) (rows : List Row) (count : ℕ) (classes : List ClassGroups) (keyed : 0 < length g.keys) (some : 0 < count) (made : AreAllClasses g rows count classes) where
  abbrev ks : List Row
  ks = keys_at g.keys rows

  abbrev keys : List Row
  keys = group_keys g.keys rows

  abbrev of_number : ℕ → ℕ
  of_number n = class_of count (get_or ks n [])

  abbrev own_keys : ℕ → List Row
  own_keys part = filter (is_in_class (class_at count part)) keys

  among : AreAmong ks keys
  among = subst (AreAmong ks) (sym (distinct_keys g.keys rows keyed)) (distinct_among ks)

  same_class : (k : Row) → contains_row ks k ≡ true → of_number (place_of ks k) ≡ class_of count k
  same_class k known = ap (class_of count) (key_found ks k known)

  -- ---- one class

  module _ (part : ℕ) (within : part < count) where
    there : part < length classes
    there = omega (arith, within, made.counted)

    class_there : HasAt classes part
    class_there = has_at classes part there

    its : AreGroupsOfClass g (class_at count part) rows class_there.item
    its = subst (AreGroupsOfClass g (class_at count part) rows) (class_there.is class_there.item) (made.each part class_there.item within)

    firsts_there : list_at (firsts_of classes) part ≡ map (place_of ks) (own_keys part)
    firsts_there =
        get_or-map (λ (x : ClassGroups). x.firsts.items) classes part class_there.item [] there
        ∙ ap (λ (x : ClassGroups). x.firsts.items) (class_there.is class_there.item)
        ∙ its.placed
        ∙ ap (map (place_of ks)) (keys_of_kind g.keys (is_in_class (class_at count part)) rows keyed)

    rows_there : each (group_row g rows) (own_keys part) ≡ Some (get_or (rows_of classes) part [])
    rows_there =
        sym (groups_of_kind g (is_in_class (class_at count part)) rows keyed)
        ∙ its.are
        ∙ ap (λ (l : List Row). Some l) (sym (get_or-map (λ (x : ClassGroups). x.rows) classes part class_there.item [] there ∙ ap (λ (x : ClassGroups). x.rows) (class_there.is class_there.item)))

    pub numbers_there : list_at (firsts_of classes) part ≡ of_class of_number part (first_places g.keys rows keys)
    numbers_there = firsts_there ∙ sym (places_of_class ks of_number (class_of count) part same_class keys among)

    -- the row of the group at a place
    module _ (i : ℕ) (less : i < length (list_at (firsts_of classes) part)) where
      own : i < length (own_keys part)
      own = omega (arith, less, ap (λ (l : List ℕ). length l) firsts_there, length-map (own_keys part) (place_of ks))

      its_key : get_or ks (get_or (list_at (firsts_of classes) part) i 0) [] ≡ get_or (own_keys part) i []
      its_key =
          ap (λ (l : List ℕ). get_or ks (get_or l i 0) []) firsts_there
          ∙ ap (λ (n : ℕ). get_or ks n []) (get_or-map (place_of ks) (own_keys part) i [] 0 own)
          ∙ key_found ks (get_or (own_keys part) i [])
          (all_at (λ (k : Row). contains_row ks k ≡ true) (own_keys part) i [] (all_kept (λ (k : Row). contains_row ks k ≡ true) (is_in_class (class_at count part)) keys among) own)

      pub its_row : group_row g rows (get_or ks (get_or (list_at (firsts_of classes) part) i 0) []) ≡ Some (get_or (get_or (rows_of classes) part []) i [])
      its_row = ap (group_row g rows) its_key ∙ each-get (group_row g rows) (own_keys part) (get_or (rows_of classes) part []) rows_there i [] [] own

      pub its_place : i < length (get_or (rows_of classes) part [])
      its_place = omega (arith, own, each-length (group_row g rows) (own_keys part) (get_or (rows_of classes) part []) rows_there)

  -- ---- all classes

  counted : length (firsts_of classes) ≡ count
  counted = length-map classes (λ (x : ClassGroups). x.firsts.items) ∙ made.counted

  parted : AreParted of_number (first_places g.keys rows keys) (firsts_of classes)
  parted = record {
    ascending = subst (λ (l : List Row). IsAscending (map (place_of ks) l)) (sym (distinct_keys g.keys rows keyed)) (places_ascend ks);
    few = all_of (λ (n : ℕ). of_number n < length (firsts_of classes)) (first_places g.keys rows keys) (λ n. omega (arith, counted, class_few count (get_or ks n []) some));
    each = λ part within. numbers_there part (omega (arith, within, counted));
  }

  -- ---- by the numbers of the rows' classes

  module _ (numbers : List ℕ) (known : AreClassNumbers count g.keys rows numbers) where
    number_at : (n : ℕ) → n < length rows → class_at_place numbers n ≡ of_number n
    number_at n less = known.each n 0 less ∙ ap (class_of count) (sym (get_or-map (columns_at g.keys) rows n [] [] less))

    rows_few : AllByRecursion (λ (n : ℕ). n < length rows) (first_places g.keys rows keys)
    rows_few = all_mapped (place_of ks) (λ (k : Row). contains_row ks k ≡ true) (λ (n : ℕ). n < length rows)
        (λ k there. omega (arith, place_known ks k there, length-map rows (columns_at g.keys))) keys among

    few_classes : (n : ℕ) → n < length rows → class_at_place numbers n < length (firsts_of classes)
    few_classes n less = omega (arith, number_at n less, counted, class_few count (get_or ks n []) some)

    pub by_class : AreByClass numbers (firsts_of classes)
    by_class = record {
      numbers = first_places g.keys rows keys;
      parted = record {
        ascending = parted.ascending;
        few = all_more (λ (n : ℕ). n < length rows) (λ (n : ℕ). class_at_place numbers n < length (firsts_of classes)) few_classes (first_places g.keys rows keys) rows_few;
        each = λ part within.
            parted.each part within
            ∙ sym (same_of_class (class_at_place numbers) of_number part (first_places g.keys rows keys)
            (all_more (λ (n : ℕ). n < length rows) (λ (n : ℕ). class_at_place numbers n ≡ of_number n) number_at (first_places g.keys rows keys) rows_few));
      };
      within = subst (λ (m : ℕ). AllByRecursion (λ (n : ℕ). n < m) (first_places g.keys rows keys)) (sym known.counted) rows_few;
      few = λ n less. few_classes n (omega (arith, less, known.counted));
    }

  module _ (places : List PartPlace) (merged : AreMerged (firsts_of classes) places) where
    row_at : (p : PartPlace) → IsNumberIn (firsts_of classes) p → group_row g rows (get_or ks (number_in (firsts_of classes) p) []) ≡ Some (row_in (rows_of classes) p)
    row_at p is = its_row p.part (omega (arith, is.part, counted)) p.place is.place

    place_at : (p : PartPlace) → IsNumberIn (firsts_of classes) p → IsPlaceIn (rows_of classes) p
    place_at p is = record {
      part = omega (arith, is.part, length-map classes (λ (x : ClassGroups). x.firsts.items), length-map classes (λ (x : ClassGroups). x.rows));
      place = its_place p.part (omega (arith, is.part, counted)) p.place is.place;
    }

    pub places_within : AllByRecursion (IsPlaceIn (rows_of classes)) places
    places_within = all_more (IsNumberIn (firsts_of classes)) (IsPlaceIn (rows_of classes)) place_at places merged.within

    pub groups_together : groups g rows ≡ Some (rows_in (rows_of classes) places)
    groups_together =
        each_alike (group_row g rows) (λ (k : Row). group_row g rows (get_or ks (place_of ks k) [])) keys
        (all_more (λ (k : Row). contains_row ks k ≡ true) (λ (k : Row). group_row g rows k ≡ group_row g rows (get_or ks (place_of ks k) [])) (λ k known. ap (group_row g rows) (sym (key_found ks k known))) keys among)
        ∙ sym (each-map (λ (n : ℕ). group_row g rows (get_or ks n [])) (place_of ks) keys)
        ∙ ap (each (λ (n : ℕ). group_row g rows (get_or ks n []))) (sym (merged.numbers of_number (first_places g.keys rows keys) parted))
        ∙ each-map (λ (n : ℕ). group_row g rows (get_or ks n [])) (number_in (firsts_of classes)) places
        ∙ each-same (λ (p : PartPlace). group_row g rows (get_or ks (number_in (firsts_of classes) p) [])) (row_in (rows_of classes)) places
        (all_more (IsNumberIn (firsts_of classes)) (λ (p : PartPlace). group_row g rows (get_or ks (number_in (firsts_of classes) p) []) ≡ Some (row_in (rows_of classes) p)) row_at places merged.within)
