-- The rows that mutations made: what is at a key, in the order of their keys, with a key among them.
use Rattle.std.specs.Prelude.{◌≡◌, ℕ, nat_eq, Bool, true, false, if◌then◌else◌, List, [], ◌∷◌, ◌++◌, Option, Some, None}
use Rattle.std.specs.BTreeMap.{insert_entry, is_at}
use Rattle.std.specs.List.{list_any, starts_with, AllByRecursion, IsDistinct}
use Rattle.std.specs.List.Sorted.{IsStrictlySortedBy, IsPartitionPoint}
use Rattle.std.specs.Map.{keys_of, lookup}
use Rattle.std.specs.Ordering.{is_lt}
use Rattle.std.specs.declared.cmp.Ordering.TheVariants.{Less}
use Rattle.span_keycode.specs.Order.{byte_order, is_same}

-- bytes begin with others
abbrev pub begins_with : List ℕ → List ℕ → Bool
begins_with bytes front = starts_with nat_eq bytes front

-- the row that mutations made at a key
abbrev pub made_at : List (List ℕ × List ℕ) → List ℕ → Option (List ℕ)
made_at made k = lookup (is_at (byte_order k)) made

-- their keys rise
abbrev pub AreInKeyOrder : List (List ℕ × List ℕ) → Type 0
AreInKeyOrder made = IsStrictlySortedBy byte_order (keys_of made)

-- no two of them are at one key
abbrev pub HaveDistinctKeys : List (List ℕ × List ℕ) → Type 0
HaveDistinctKeys made = IsDistinct is_same (keys_of made)

-- rows at the keys of a list, in the order of the keys; where two are at one key, the first
abbrev pub in_key_order : List (List ℕ × List ℕ) → List (List ℕ × List ℕ)
in_key_order [] = []
in_key_order (e ∷ made) = insert_entry byte_order (in_key_order made) e.0 e.1

-- those that are kept by hash, or else those that are kept in order
abbrev pub rows_of : Option (List (List ℕ × List ℕ)) → List (List ℕ × List ℕ) → List (List ℕ × List ℕ)
rows_of (Some by_hash) ordered = by_hash
rows_of None ordered = ordered

-- at each key the same row, or none
abbrev pub HasSameRows : List (List ℕ × List ℕ) → List (List ℕ × List ℕ) → Type 0
HasSameRows old new = (k : List ℕ) → made_at new k ≡ made_at old k

-- the key is after those of all rows
abbrev pub IsAfterAll : List ℕ → List (List ℕ × List ℕ) → Type 0
IsAfterAll key made = AllByRecursion (λ (k : List ℕ). byte_order k key ≡ Less) (keys_of made)

-- ... before those of all rows
abbrev pub IsBeforeAll : List ℕ → List (List ℕ × List ℕ) → Type 0
IsBeforeAll key made = AllByRecursion (λ (k : List ℕ). byte_order key k ≡ Less) (keys_of made)

-- ... not before that of the first row
abbrev pub IsFromFirst : List ℕ → List (List ℕ × List ℕ) → Type 0
IsFromFirst key [] = ⊥
IsFromFirst key (e ∷ made) = is_lt (byte_order key e.0) ≡ false

-- how many rows are at keys before this one, where those are the first ones
abbrev pub IsCountBefore : List ℕ → List (List ℕ × List ℕ) → ℕ → Type 0
IsCountBefore key made n =
    IsPartitionPoint (λ (e : List ℕ × List ℕ). is_lt (byte_order e.0 key) ≡ true)
    (λ (e : List ℕ × List ℕ). is_lt (byte_order e.0 key) ≡ false) made n

-- this row, or none, is at a key, and the others are as before
abbrev pub IsSetAt : List ℕ → Option (List ℕ) → List (List ℕ × List ℕ) → List (List ℕ × List ℕ) → Type 0
IsSetAt key row old new = (k : List ℕ) → made_at new k ≡ (if is_same key k then row else made_at old k)

-- keys that begin with these bytes, at which mutations made a row
pub record AreMadeUnder (made : List (List ℕ × List ℕ)) (front : List ℕ) (ks : List (List ℕ)) : Type 0 where
  pub sound : AllByRecursion
      (λ (k : List ℕ). (begins_with k front ≡ true) × ((row : List ℕ) × (made_at made k ≡ Some row))) ks
  pub complete : (k row : List ℕ) → begins_with k front ≡ true → made_at made k ≡ Some row
      → list_any (is_same k) ks ≡ true

-- ... added to these keys
pub record AddsMade (made : List (List ℕ × List ℕ)) (front : List ℕ) (old new : List (List ℕ)) : Type 0 where
  pub added : List (List ℕ)
  pub whole : new ≡ old ++ added
  pub are : AreMadeUnder made front added
