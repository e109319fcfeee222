-- Numbers that are in several lists, each of which has those of its class, in ascending order.
use Rattle.std.specs.Prelude.{◌≡◌, ℕ, ◌==◌, ◌<◌, ◌≤◌, List, [], ◌∷◌, ◌++◌, drop, filter, length, map, slice_index_or}
use Rattle.std.specs.List.{AllByRecursion}
use Rattle.span_merging.specs.declared.parts.PartPlace.{PartPlace}
use Rattle.span_classes.specs.declared.class_groups.ClassGroups.{ClassGroups}

-- for each class the places of the first rows of its groups
abbrev pub firsts_of : List ClassGroups → List (List ℕ)
firsts_of classes = map (λ (x : ClassGroups). x.firsts.items) classes

abbrev pub list_at : List (List ℕ) → ℕ → List ℕ
list_at lists part = slice_index_or lists part []

abbrev pub number_in : List (List ℕ) → PartPlace → ℕ
number_in lists p = slice_index_or (list_at lists p.part) p.place 0

abbrev pub numbers_in : List (List ℕ) → List PartPlace → List ℕ
numbers_in lists places = map (number_in lists) places

pub record IsNumberIn (lists : List (List ℕ)) (p : PartPlace) : Type 0 where
  pub part : p.part < length lists
  pub place : p.place < length (list_at lists p.part)

-- each number is less than all after it
abbrev pub IsAscending : List ℕ → Type 0
IsAscending [] = Unit {0}
IsAscending (n ∷ ns) = AllByRecursion (λ (m : ℕ). n < m) ns × IsAscending ns

-- those of the numbers that are of a class
abbrev pub of_class : (ℕ → ℕ) → ℕ → List ℕ → List ℕ
of_class class_of part numbers = filter (λ (n : ℕ). class_of n == part) numbers

-- each list has the numbers of its class
pub record AreParted (class_of : ℕ → ℕ) (numbers : List ℕ) (lists : List (List ℕ)) : Type 0 where
  pub ascending : IsAscending numbers
  pub few : AllByRecursion (λ (n : ℕ). class_of n < length lists) numbers
  pub each : (part : ℕ) → part < length lists → list_at lists part ≡ of_class class_of part numbers

-- the places of all the numbers, in their order
pub record AreMerged (lists : List (List ℕ)) (places : List PartPlace) : Type 0 where
  pub within : AllByRecursion (IsNumberIn lists) places
  pub numbers : (class_of : ℕ → ℕ) (numbers : List ℕ) → AreParted class_of numbers lists → numbers_in lists places ≡ numbers

-- ---- one step

abbrev pub taken_at : List ℕ → ℕ → ℕ
taken_at taken part = slice_index_or taken part 0

abbrev pub next_at : List (List ℕ) → List ℕ → ℕ → ℕ
next_at lists taken part = slice_index_or (list_at lists part) (taken_at taken part) 0

-- a list has a number left, of which some were taken
abbrev pub HasLeft : List (List ℕ) → List ℕ → ℕ → Type 0
HasLeft lists taken part = taken_at taken part < length (list_at lists part)

-- the next number of a list: which list it is, and the number
pub record Head : Type 0 where
  pub part : ℕ
  pub first : ℕ

pub record IsHead (lists : List (List ℕ)) (taken : List ℕ) (head : Head) : Type 0 where
  pub part : head.part < length lists
  pub left : HasLeft lists taken head.part
  pub first : head.first ≡ next_at lists taken head.part

-- the next of one list, and none of the lists has a lesser one
pub record IsLeastOf (lists : List (List ℕ)) (taken : List ℕ) (head : Head) : Type 0 where
  pub is : IsHead lists taken head
  pub least : (part : ℕ) → part < length lists → HasLeft lists taken part → head.first ≤ next_at lists taken part

-- what is left of each list
abbrev pub AreLeft : (ℕ → ℕ) → List ℕ → List (List ℕ) → List ℕ → Type 0
AreLeft class_of rest lists taken =
    (part : ℕ) → part < length lists → drop (taken_at taken part) (list_at lists part) ≡ of_class class_of part rest

-- the numbers are those at the places so far, and then what is left of the lists
pub record HasRest (class_of : ℕ → ℕ) (numbers : List ℕ) (lists : List (List ℕ)) (taken : List ℕ) (places : List PartPlace) : Type 0 where
  pub rest : List ℕ
  pub whole : numbers ≡ numbers_in lists places ++ rest
  pub left : AreLeft class_of rest lists taken

-- the places so far
pub record AreMergedTo (lists : List (List ℕ)) (taken : List ℕ) (places : List PartPlace) : Type 0 where
  pub counted : length taken ≡ length lists
  pub within : AllByRecursion (IsNumberIn lists) places
  pub rests : (class_of : ℕ → ℕ) (numbers : List ℕ) → AreParted class_of numbers lists → HasRest class_of numbers lists taken places

-- ---- row by row

-- the class of each row, by its place
abbrev pub class_at_place : List ℕ → ℕ → ℕ
class_at_place classes row = slice_index_or classes row 0

-- each list has the rows of its class, of some rows in ascending order
pub record AreByClass (classes : List ℕ) (lists : List (List ℕ)) : Type 0 where
  pub numbers : List ℕ
  pub parted : AreParted (class_at_place classes) numbers lists
  pub within : AllByRecursion (λ (n : ℕ). n < length classes) numbers
  pub few : (row : ℕ) → row < length classes → class_at_place classes row < length lists

-- a number is the one that is next of a list, of which some were taken
pub record IsNext (list : List ℕ) (taken n : ℕ) : Type 0 where
  pub left : taken < length list
  pub is : slice_index_or list taken 0 ≡ n

-- what is left is from a row on
pub record HasRestFrom (classes : List ℕ) (numbers : List ℕ) (lists : List (List ℕ)) (taken : List ℕ) (places : List PartPlace) (row : ℕ) : Type 0 where
  pub has : HasRest (class_at_place classes) numbers lists taken places
  pub from : AllByRecursion (λ (n : ℕ). row ≤ n) has.rest

-- the places of the numbers before a row
pub record AreMergedBefore (classes : List ℕ) (lists : List (List ℕ)) (taken : List ℕ) (places : List PartPlace) (row : ℕ) : Type 0 where
  pub to : AreMergedTo lists taken places
  pub from : (numbers : List ℕ) → AreParted (class_at_place classes) numbers lists → HasRestFrom classes numbers lists taken places row
