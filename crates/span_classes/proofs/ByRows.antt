-- Lists of numbers put together row by row: a row that is the next of the list of its class is the next of all.
use Rattle.std.proofs.Common.{◌≡◌, ◌≢◌, ℕ, ◌+◌, ◌<◌, ◌≤◌, ◌==◌, zero, suc, Bool, true, false, cond, List, [], ◌∷◌, ◌++◌, length, get_or, map, set, drop, replicate, refl, sym, ap, ◌∙◌, subst, inl, inr, arith}
use Rattle.std.specs.List.{AllByRecursion}
use Rattle.std.proofs.lemmas.Bool.{cases_eq}
use Rattle.std.proofs.lemmas.List.{map-append}
use Rattle.span_merging.specs.declared.parts.PartPlace.{PartPlace}
use Rattle.span_classes.specs.Merging.{list_at, number_in, numbers_in, IsAscending, of_class, AreParted, AreMerged, taken_at, next_at, Head, HasLeft, IsLeastOf, AreMergedTo, HasRest, class_at_place, AreByClass, IsNext, HasRestFrom, AreMergedBefore}
use Rattle.span_classes.proofs.Merging.{BeginsAt, HasItem, all_end, ascending_end, begins_at, has_item, merged_all, merged_next, merged_start, of_its_class}

all_of : (P : ℕ → Type 0) (ns : List ℕ) → ((n : ℕ) → P n) → AllByRecursion P ns
all_of P [] each = tt
all_of P (n ∷ ns) each = (each n, all_of P ns each)

all_from : (a b : ℕ) (ns : List ℕ) → a ≤ b → AllByRecursion (λ (m : ℕ). b < m) ns → AllByRecursion (λ (m : ℕ). a + 1 ≤ m) ns
all_from a b [] le all = tt
all_from a b (n ∷ ns) le all = (omega (arith, all.0), all_from a b ns le all.1)

-- those of a class are from a row on where all are
of_class_from : (class_of : ℕ → ℕ) (part row : ℕ) (ns : List ℕ) (m : ℕ) (ms : List ℕ) → AllByRecursion (λ (k : ℕ). row ≤ k) ns → of_class class_of part ns ≡ m ∷ ms → row ≤ m
of_class_from class_of part row [] m ms all e = absurd cc
of_class_from class_of part row (k ∷ ns) m ms all e = elim (class_of k == part) as (λ b. cond b (k ∷ of_class class_of part ns) (of_class class_of part ns) ≡ m ∷ ms → row ≤ m) [
  | true ↦ λ h. let is : k ≡ m = cc in omega (arith, all.0, is)
  | false ↦ λ h. of_class_from class_of part row ns m ms all.1 h
] e

-- numbers that ascend are greater after one than it
ascending_after : (xs : List ℕ) (n : ℕ) (ys : List ℕ) → IsAscending ((xs ++ n ∷ []) ++ ys) → AllByRecursion (λ (m : ℕ). n < m) ys
ascending_after [] n ys a = a.0
ascending_after (x ∷ xs) n ys a = ascending_after xs n ys a.1

drop_none : (n : ℕ) (xs : List ℕ) → drop n xs ≡ [] → length xs ≤ n
drop_none n [] e = omega arith
drop_none zero (x ∷ xs) e = absurd cc
drop_none (suc n) (x ∷ xs) e = omega (arith, drop_none n xs e)

pub rows_start : (classes : List ℕ) (lists : List (List ℕ)) (n : ℕ) (taken : List ℕ) (places : List PartPlace) → n ≡ length lists → taken ≡ replicate n zero → places ≡ [] → AreMergedBefore classes lists taken places 0
rows_start classes lists n taken places many none empty =
    let to = merged_start lists n taken places many none empty in
    record {
      to = to;
      from = λ numbers parted. record {
        has = to.rests (class_at_place classes) numbers parted;
        from = all_of (λ (k : ℕ). 0 ≤ k) (to.rests (class_at_place classes) numbers parted).rest (λ k. omega arith);
      };
    }

module _ (classes : List ℕ) (lists : List (List ℕ)) (taken : List ℕ) (places : List PartPlace) (row : ℕ) (by : AreByClass classes lists) (within : row < length classes) (so_far : AreMergedBefore classes lists taken places row) where
  abbrev part : ℕ
  part = class_at_place classes row

  -- ---- the row is next of its class
  module _ (next : IsNext (list_at lists part) (taken_at taken part) row) where
    abbrev head : Head
    head = record { part = part; first = row }

    least : IsLeastOf lists taken head
    least = record {
      is = record { part = by.few row within; left = next.left; first = sym next.is };
      least = λ p less left.
          let now = so_far.from by.numbers by.parted in
          let own = has_item (taken_at taken p) (list_at lists p) left in
          let begins = begins_at (taken_at taken p) (list_at lists p) 0 own.item own.others own.is in
          let from : row ≤ own.item = of_class_from (class_at_place classes) p row now.has.rest own.item own.others now.from (sym (now.has.left p less) ∙ own.is) in
          omega (arith, from, begins.item);
    }

    pub rows_taken : AreMergedBefore classes lists (set taken part (taken_at taken part + 1)) (places ++ record { part = part; place = taken_at taken part } ∷ []) (row + 1)
    rows_taken =
        let to = merged_next lists taken places so_far.to head least in
        record {
          to = to;
          from = λ numbers parted.
              let has = to.rests (class_at_place classes) numbers parted in
              let its : PartPlace = record { part = part; place = taken_at taken part } in
              let split : numbers ≡ (numbers_in lists places ++ row ∷ []) ++ has.rest =
              has.whole ∙ ap (λ (l : List ℕ). l ++ has.rest) (map-append (number_in lists) places (its ∷ []) ∙ ap (λ (n : ℕ). numbers_in lists places ++ n ∷ []) next.is) in
              record {
                has = has;
                from = all_from row row has.rest (omega arith) (ascending_after (numbers_in lists places) row has.rest (subst IsAscending split parted.ascending));
              };
        }

  -- ---- the row is not
  module _ (other : taken_at taken part < length (list_at lists part) → next_at lists taken part ≢ row) where
    later : (numbers rest : List ℕ) → AllByRecursion (λ (n : ℕ). row ≤ n) rest → IsAscending rest
        → drop (taken_at taken part) (list_at lists part) ≡ of_class (class_at_place classes) part rest → AllByRecursion (λ (n : ℕ). row + 1 ≤ n) rest
    later numbers [] from ascending left = tt
    later numbers (n ∷ rest) from ascending left = elim (cases_eq n row) [
      | inl same ↦
          let left_there : drop (taken_at taken part) (list_at lists part) ≡ row ∷ of_class (class_at_place classes) part rest =
          left ∙ ap (λ (k : ℕ). of_class (class_at_place classes) part (k ∷ rest)) same ∙ of_its_class (class_at_place classes) row rest in
          let begins = begins_at (taken_at taken part) (list_at lists part) 0 row (of_class (class_at_place classes) part rest) left_there in
          absurd (other begins.within begins.item)
      | inr differs ↦ (omega (arith, from.0, differs), all_from row n rest from.0 ascending.0)
    ]

    pub rows_passed : AreMergedBefore classes lists taken places (row + 1)
    rows_passed = record {
      to = so_far.to;
      from = λ numbers parted.
          let now = so_far.from numbers parted in
          let ascending = ascending_end (numbers_in lists places) now.has.rest (subst IsAscending now.has.whole parted.ascending) in
          record { has = now.has; from = later numbers now.has.rest now.from ascending (now.has.left part (by.few row within)) };
    }

-- the same of what a step leaves
module _ (numbers : List ℕ) (lists : List (List ℕ)) (taken : List ℕ) (places : List PartPlace) (row part place : ℕ) (list : List ℕ) (is_part : class_at_place numbers row ≡ part) (is_list : list_at lists part ≡ list) (is_place : place ≡ taken_at taken part) (within : row < length numbers) (by : AreByClass numbers lists) (so_far : AreMergedBefore numbers lists taken places row) where
  pub step_taken : (new_taken : List ℕ) (new_places : List PartPlace) → IsNext list place row → new_taken ≡ set taken part (place + 1) → new_places ≡ places ++ record { part = part; place = place } ∷ []
      → AreMergedBefore numbers lists new_taken new_places (row + 1)
  step_taken new_taken new_places next is_taken are_places =
      let here : IsNext (list_at lists part) (taken_at taken part) row =
      subst (λ (l : List ℕ). IsNext l (taken_at taken part) row) (sym is_list) (subst (λ (n : ℕ). IsNext list n row) is_place next) in
      let own : IsNext (list_at lists (class_at_place numbers row)) (taken_at taken (class_at_place numbers row)) row =
      subst (λ (p : ℕ). IsNext (list_at lists p) (taken_at taken p) row) (sym is_part) here in
      let made = rows_taken numbers lists taken places row by within so_far own in
      let at_part : AreMergedBefore numbers lists (set taken part (taken_at taken part + 1)) (places ++ record { part = part; place = taken_at taken part } ∷ []) (row + 1) =
      subst (λ (p : ℕ). AreMergedBefore numbers lists (set taken p (taken_at taken p + 1)) (places ++ record { part = p; place = taken_at taken p } ∷ []) (row + 1)) is_part made in
      let at_place : AreMergedBefore numbers lists (set taken part (place + 1)) (places ++ record { part = part; place = place } ∷ []) (row + 1) =
      subst (λ (n : ℕ). AreMergedBefore numbers lists (set taken part (n + 1)) (places ++ record { part = part; place = n } ∷ []) (row + 1)) (sym is_place) at_part in
      subst (λ (l : List ℕ). AreMergedBefore numbers lists l new_places (row + 1)) (sym is_taken)
      (subst (λ (l : List PartPlace). AreMergedBefore numbers lists (set taken part (place + 1)) l (row + 1)) (sym are_places) at_place)

  pub step_passed : (place < length list → get_or list place 0 ≢ row) → AreMergedBefore numbers lists taken places (row + 1)
  step_passed other =
      let here : taken_at taken part < length (list_at lists part) → next_at lists taken part ≢ row =
      subst (λ (l : List ℕ). taken_at taken part < length l → get_or l (taken_at taken part) 0 ≢ row) (sym is_list) (subst (λ (n : ℕ). n < length list → get_or list n 0 ≢ row) is_place other) in
      rows_passed numbers lists taken places row by within so_far
      (subst (λ (p : ℕ). taken_at taken p < length (list_at lists p) → next_at lists taken p ≢ row) (sym is_part) here)

-- ---- all rows

none_from : (count : ℕ) (rest : List ℕ) → AllByRecursion (λ (n : ℕ). n < count) rest → AllByRecursion (λ (n : ℕ). count ≤ n) rest → rest ≡ []
none_from count [] within from = refl
none_from count (n ∷ rest) within from = absurd (omega (arith, within.0, from.0))

pub rows_all : (classes : List ℕ) (lists : List (List ℕ)) (taken : List ℕ) (places : List PartPlace) → AreByClass classes lists → AreMergedBefore classes lists taken places (length classes) → AreMerged lists places
rows_all classes lists taken places by so_far =
    let now = so_far.from by.numbers by.parted in
    let within = all_end (λ (n : ℕ). n < length classes) (numbers_in lists places) now.has.rest (subst (λ (l : List ℕ). AllByRecursion (λ (n : ℕ). n < length classes) l) now.has.whole by.within) in
    let none : now.has.rest ≡ [] = none_from (length classes) now.has.rest within now.from in
    merged_all lists taken places so_far.to
    (λ part less. drop_none (taken_at taken part) (list_at lists part) (now.has.left part less ∙ ap (λ (l : List ℕ). of_class (class_at_place classes) part l) none))
