-- The numbers that are read of a table's whole keys, each at one place.
use Rattle.std.specs.Prelude.{◌≡◌, ℕ, ℤ, ◌+◌, ◌≤◌, List, [], ◌∷◌, ◌++◌, Bool, IfSome, Option, length, drop, slice_set, if◌then◌else◌}
use Rattle.std.specs.List.{AllByRecursion}
use Rattle.span_value.specs.declared.value.Value.{Value}
use Rattle.span_value.specs.declared.value.Value.TheVariants.{Int}
use Rattle.span_value.specs.declared.value.Kind.TheVariants as kind
use Rattle.span_schema.specs.declared.table.Table.{Table}
use Rattle.span_schema.specs.Numbers.{key_places}
use Rattle.span_keycode.specs.Coding.{Fits, in_direction, plain}
use Rattle.span_keycode.specs.Keys.{IsKey, key_code}
use Rattle.span_rowreader.specs.declared.key_numbers.KeyNumber.{KeyNumber}
use Rattle.span_rowreader.specs.declared.key_numbers.KeyNumbers.{KeyNumbers}
use Rattle.span_rowreader.specs.declared.reads.KeyRead.{KeyRead}
use Rattle.span_rowreader.specs.Placed.{is_wanted, placed}
use Rattle.span_rowreader.specs.Reads.{AreReadsOf}

-- ---- the numbers in a key

-- the number is coded at the front of bytes, in a column that is descending or not
pub record IsNumberCoded (way : Bool) (bytes : List ℕ) (number : ℤ) : Type 0 where
  pub more : List ℕ
  pub fits : Fits kind.Int (Int number)
  pub code : bytes ≡ in_direction way (plain (Int number)) ++ more

-- whatever number is coded there, it is this one
pub record IsNumberFound (way : Bool) (bytes : List ℕ) (found : ℤ) : Type 0 where
  pub is : (number : ℤ) → IsNumberCoded way bytes number → number ≡ found

-- numbers are coded at the places of a key
abbrev pub AreNumbersCoded : List KeyNumber → List ℕ → List ℤ → Type 0
AreNumbersCoded [] key numbers = Unit {0}
AreNumbersCoded (x ∷ xs) key [] = ⊥
AreNumbersCoded (x ∷ xs) key (z ∷ zs) = IsNumberCoded x.desc (drop x.at key) z × AreNumbersCoded xs key zs

-- a row with numbers at their places
abbrev pub with_numbers : List KeyNumber → List ℤ → List Value → List Value
with_numbers [] zs row = row
with_numbers (x ∷ xs) [] row = row
with_numbers (x ∷ xs) (z ∷ zs) row = with_numbers xs zs (slice_set row x.place (Int z))

-- whatever numbers are coded at the places of the key, they were put at theirs
pub record AreNumbersPut (xs : List KeyNumber) (key : List ℕ) (old new : List Value) : Type 0 where
  pub put : (numbers : List ℤ) → AreNumbersCoded xs key numbers → new ≡ with_numbers xs numbers old

-- ---- the numbers of a table's keys

-- a key of some bytes has all of the places
abbrev pub AreWithin : ℕ → List KeyNumber → Type 0
AreWithin len xs = AllByRecursion (λ (x : KeyNumber). x.at + 9 ≤ len) xs

-- the number of a column that begins at a place with the numbers of tables in front of it, if the mask has its place, and those after it
abbrev pub with_number : KeyRead → ℕ → List Bool → List KeyNumber → List KeyNumber
with_number r at ms later =
    if is_wanted ms r.place then record { at = at + r.above; desc = r.column.desc; place = r.place } ∷ later else later

-- the numbers of columns each of which is coded in nine bytes
abbrev pub numbers_of : List KeyRead → ℕ → List Bool → List KeyNumber
numbers_of [] at ms = []
numbers_of (r ∷ rs) at ms = with_number r at ms (numbers_of rs (at + r.above + 9) ms)

-- whatever columns come later, their numbers and those so far are the same as before a column
pub record IsNumberAdded (r : KeyRead) (at len : ℕ) (ms : List Bool) (old new : List KeyNumber) (next : ℕ) : Type 0 where
  pub next_is : next ≡ at + r.above + 9
  pub added : (later : List KeyNumber) → new ++ later ≡ old ++ with_number r at ms later
  pub within : AreWithin len old → AreWithin len new

-- they are the numbers of columns, within keys of some bytes
pub record AreNumbersOf (rs : List KeyRead) (ms : List Bool) (len : ℕ) (k : KeyNumbers) : Type 0 where
  pub len_is : k.len ≡ len
  pub are : k.each ≡ numbers_of rs 0 ms
  pub within : AreWithin k.len k.each

-- the numbers that a key has, and what is put where they are
pub record HasNumbers (xs : List KeyNumber) (ps : List ℕ) (ms : List Bool) (vs : List Value) (key : List ℕ) : Type 0 where
  pub numbers : List ℤ
  pub coded : AreNumbersCoded xs key numbers
  pub put : (row : List Value) → with_numbers xs numbers row ≡ placed ms ps vs row

-- of each key of table n that has the length, these are the numbers; what is put is what is to be put of the key
pub record AreKeyNumbers (schema : List Table) (n : ℕ) (ps : List ℕ) (ms : List Bool) (k : KeyNumbers) : Type 0 where
  pub within : AreWithin k.len k.each
  pub of : (vs : List Value) → IsKey schema n vs → length (key_code schema n vs) ≡ k.len
      → HasNumbers k.each ps ms vs (key_code schema n vs)

-- the same wherever the columns are those of table n's keys at places
pub record AreWholeNumbers (schema : List Table) (n : ℕ) (ms : List Bool) (rs : List KeyRead)
    (found : Option KeyNumbers) : Type 0 where
  pub of : (ps : List ℕ) → length ps ≡ length (key_places schema n) → AreReadsOf schema n ps ms rs
      → IfSome found (AreKeyNumbers schema n ps ms)
