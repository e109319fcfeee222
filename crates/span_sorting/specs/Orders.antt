-- Lists in order.
use Rattle.std.specs.Prelude.{◌≡◌, ℕ, ◌<◌, ◌⊎◌, Bool, true, false, not, List, [], ◌∷◌, ◌++◌, Option, Some, None, drop, if◌then◌else◌, nat_lt, take}
use Rattle.std.specs.List.{AllByRecursion}
use Rattle.span_query.specs.Sorting.{insert_sorted}

-- none comes before one that precedes it in the list
abbrev pub IsSorted : {A : Type 0} → (A → A → Bool) → List A → Type 0
IsSorted before [] = Unit {0}
IsSorted before (x ∷ xs) = AllByRecursion (λ y. before y x ≡ false) xs × IsSorted before xs

-- the first items of a list, where a count of them is given; else all
abbrev pub take_first : {A : Type 0} → Option ℕ → List A → List A
take_first None xs = xs
take_first (Some count) xs = take count xs

-- an item that is put among others in their order goes before the one at this place
abbrev pub GoesBefore : {A : Type 0} → (A → A → Bool) → A → List A → ℕ → Type 0
GoesBefore before x xs at = insert_sorted before x xs ≡ take at xs ++ x ∷ drop at xs

-- the order of items that may be missing: a missing one comes after all others
abbrev pub option_before : {A : Type 0} → (A → A → Bool) → Option A → Option A → Bool
option_before before None y = false
option_before before (Some x) None = true
option_before before (Some x) (Some y) = before x y

-- the order of places of items: by the items, and where these tie, by the places
abbrev pub item_before : {A : Type 0} → (A → A → Bool) → (ℕ → A) → ℕ → ℕ → Bool
item_before before items i j = if nat_lt i j then not (before (items j) (items i)) else before (items i) (items j)

abbrev pub IsIn : {A : Type 0} → A → List A → Type 0
IsIn x [] = ⊥
IsIn x (y ∷ ys) = (x ≡ y) ⊎ IsIn x ys

-- each comes before those that follow it in the list
abbrev pub IsStrictlySorted : {A : Type 0} → (A → A → Bool) → List A → Type 0
IsStrictlySorted before [] = Unit {0}
IsStrictlySorted before (x ∷ xs) = AllByRecursion (λ y. before x y ≡ true) xs × IsStrictlySorted before xs

-- the numbers below `count`, and these alone, each before those that follow it
pub record IsOrderBelow (count : ℕ) (before : ℕ → ℕ → Bool) (order : List ℕ) : Type 0 where
  pub within : AllByRecursion (λ i. i < count) order
  pub whole : (i : ℕ) → i < count → IsIn i order
  pub rising : IsStrictlySorted before order

-- the first item put among the others
abbrev pub first_put : {A : Type 0} → (A → A → Bool) → List A → List A
first_put before [] = []
first_put before (x ∷ xs) = insert_sorted before x xs
