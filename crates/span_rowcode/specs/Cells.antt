-- What is read after the mark of a cell that is not NULL.
use Rattle.std.specs.Prelude.{◌≡◌, ℕ, ◌+◌, ◌<◌, ◌≤◌, ◌^◌, List, ◌∷◌, ◌++◌, length, drop}
use Rattle.std.specs.Int.{to_be_bytes, w32}
use Rattle.span_value.specs.declared.value.Value.{Value}
use Rattle.span_value.specs.declared.value.Kind.{Kind}
use Rattle.span_schema.specs.Fitting.{Fits, AreBytes}
use Rattle.span_rowcode.specs.Rows.{cell_code}

-- no cell of the kind is coded by 1 and then the bytes
pub record IsNoBody (k : Kind) (bytes : List ℕ) : Type 0 where
  pub none : (v : Value) (rest : List ℕ) → Fits k v → 1 ∷ bytes ≡ cell_code v ++ rest → ⊥

-- a cell of the kind is coded by 1 and then the first n bytes
pub record IsBody (k : Kind) (bytes : List ℕ) (v : Value) (n : ℕ) : Type 0 where
  pub fits : Fits k v
  pub code : 1 ∷ bytes ≡ cell_code v ++ drop n bytes
  pub within : n ≤ length bytes

-- a length in four bytes, and as many bytes
pub record HasBytes (bytes : List ℕ) (found : List ℕ) : Type 0 where
  pub code : bytes ≡ to_be_bytes w32 (length found) ++ (found ++ drop (length found + 4) bytes)
  pub are : AreBytes found
  pub within : length found + 4 ≤ length bytes
  pub short : length found < 2 ^ 32

-- no such bytes
pub record HasNoBytes (bytes : List ℕ) : Type 0 where
  pub none : (found rest : List ℕ) → bytes ≡ to_be_bytes w32 (length found) ++ (found ++ rest) → ⊥
