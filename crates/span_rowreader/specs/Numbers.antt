-- Numbers at the front of bytes.
use Rattle.std.specs.Prelude.{◌≡◌, ℕ, ℤ, ◌≤◌, ◌∷◌, ◌++◌, Bool, List, length, drop}
use Rattle.std.specs.Int.{to_be_bytes, w64}
use Rattle.span_schema.specs.Fitting.{Fits}
use Rattle.span_value.specs.declared.value.Value.TheVariants.{Int}
use Rattle.span_value.specs.declared.value.Kind.TheVariants as kind
use Rattle.span_keycode.specs.Coding.{in_direction, to_unsigned}

-- the first eight bytes, as they are in a column that is descending or not, are the word
pub record HasWord (way : Bool) (bytes : List ℕ) (word : ℕ) : Type 0 where
  pub within : 8 ≤ length bytes
  pub code : in_direction way bytes ≡ to_be_bytes w64 word ++ in_direction way (drop 8 bytes)

-- a number is coded in the first nine bytes of a column of numbers
pub record IsNumberOf (way : Bool) (bytes : List ℕ) (number : ℤ) : Type 0 where
  pub fits : Fits kind.Int (Int number)
  pub code : in_direction way bytes ≡ 1 ∷ (to_be_bytes w64 (to_unsigned number) ++ in_direction way (drop 9 bytes))
  pub within : 9 ≤ length bytes
