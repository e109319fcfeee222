-- Rows in classes by a hash of their keys, each linked to the one of its class that came before it.
use Rattle.std.specs.Prelude.{◌≡◌, ◌≢◌, ℕ, ◌+◌, ◌-◌, ◌/◌, ◌^◌, ◌<◌, ◌≤◌, List, [], bit_and, fold, length, slice_index, slice_index_or}
use Rattle.std.specs.Hash.FoldHasher as folding
use Rattle.std.specs.Map.{keys_of}
use Rattle.span_keycode.specs.Hashes.{key_writes}
use Rattle.span_maderows.specs.Made.{HaveDistinctKeys}

-- the number of the class that a key is in, where there are `count` classes
unfoldable pub class_of : ℕ → List ℕ → ℕ
class_of count key = bit_and (folding.finish (fold folding.write folding.initial (key_writes key)) / 2 ^ 32) (count - 1)

abbrev pub key_at : List (List ℕ) → ℕ → List ℕ
key_at keys at = slice_index_or keys at []

-- of the keys before a place the last one in a class is at the place before `left`; where `left` is 0 there is none
pub record IsLast (count : ℕ) (keys : List (List ℕ)) (end class left : ℕ) : Type 0 where
  pub within : left ≤ end
  pub own : (at : ℕ) → left ≡ at + 1 → class_of count (key_at keys at) ≡ class
  pub others : (at : ℕ) → left ≤ at → at < end → class_of count (key_at keys at) ≢ class

-- for each class its last key, and for each key the one of its class before it
pub record AreLinked (keys : List (List ℕ)) (lasts befores : List ℕ) : Type 0 where
  pub some : 0 < length lasts
  pub counted : length befores ≡ length keys
  pub last : (class : ℕ) → class < length lasts → IsLast (length lasts) keys (length keys) class (slice_index lasts class)
  pub before : (at : ℕ) → at < length keys → IsLast (length lasts) keys at (class_of (length lasts) (key_at keys at)) (slice_index befores at)

-- rows at keys that differ, linked by them
pub record AreHashed (rows : List (List ℕ × List ℕ)) (lasts befores : List ℕ) : Type 0 where
  pub distinct : HaveDistinctKeys rows
  pub linked : AreLinked (keys_of rows) lasts befores
