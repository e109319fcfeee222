-- The last of some rows.
use Rattle.std.specs.Prelude.{◌≡◌, ◌<◌, ◌≤◌, ◌+◌, ℕ, List, [], ◌∷◌, ◌++◌, length, slice_set}
use Rattle.span_value.specs.declared.value.Value.{Value}
use Rattle.span_query.specs.Rows.{Row}

-- of whatever rows the last has a number of values, the value was put at a place of it, if it has the place
pub record IsPutInLast (width place : ℕ) (value : Value) (old new : List Row) : Type 0 where
  pub put : (rows : List Row) (row : Row) → old ≡ rows ++ row ∷ [] → length row ≡ width
      → new ≡ rows ++ slice_set row place value ∷ []

-- where a place of the last row is among all values
pub record IsPlaceInLast (count width place at : ℕ) : Type 0 where
  pub within : place < width
  pub is : at + width ≡ count + place

-- the row does not have the place, or there are fewer values
pub record IsNoPlaceInLast (count width place : ℕ) : Type 0 where
  pub none : place < width → width ≤ count → ⊥
