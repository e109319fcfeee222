use Rattle.std.specs.Prelude.{◌≡◌, ℕ, ◌<◌, Bool, List, Some, length, slice_get, slice_set, find, remove}
use Rattle.span_machine.specs.Machine.{changed_first, without_first}

-- x is the first that passes, at index i
pub record IsPlace {A : Type 0} (test : A → Bool) (xs : List A) (i : ℕ) (x : A) : Type 0 where
  pub within : i < length xs
  pub here : slice_get xs i ≡ Some x
  pub found : find test xs ≡ Some x
  pub changed : (change : A → A) → changed_first test change xs ≡ slice_set xs i (change x)
  pub without : without_first test xs ≡ remove xs i
