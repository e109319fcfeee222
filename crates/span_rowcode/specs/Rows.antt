-- Packed rows.
use Rattle.std.specs.Prelude.{◌≡◌, ℕ, ◌≤◌, List, [], ◌∷◌, ◌++◌, Bool, true, false, length, drop}
use Rattle.std.specs.Int.{to_be_bytes, cast_unsigned, w32, w64}
use Rattle.span_value.specs.declared.value.Value.{Value}
use Rattle.span_value.specs.declared.value.Value.TheVariants.{Null, Int, Str, Bytes, Bool as Flag}
use Rattle.span_value.specs.declared.value.Kind.{Kind}
use Rattle.span_schema.specs.Fitting.{Fits}
use Rattle.span_rowcode.specs.Limits.{longest_row}

abbrev pub bit : Bool → ℕ
bit false = 0
bit true = 1

-- a length in four bytes, and then the bytes
abbrev pub bytes_code : List ℕ → List ℕ
bytes_code bs = 1 ∷ (to_be_bytes w32 (length bs) ++ bs)

-- 0 for NULL; else 1 and the value: numbers in two's complement, highest byte first
abbrev pub cell_code : Value → List ℕ
cell_code Null = 0 ∷ []
cell_code (Int i) = 1 ∷ to_be_bytes w64 (cast_unsigned w64 i)
cell_code (Str bs) = bytes_code bs
cell_code (Bytes bs) = bytes_code bs
cell_code (Flag b) = 1 ∷ bit b ∷ []

-- cell by cell
abbrev pub row_code : List Value → List ℕ
row_code [] = []
row_code (v ∷ vs) = cell_code v ++ row_code vs

-- one cell for each kind, and each fits
abbrev pub AreCells : List Kind → List Value → Type 0
AreCells [] [] = Unit {0}
AreCells [] (v ∷ vs) = ⊥
AreCells (k ∷ ks) [] = ⊥
AreCells (k ∷ ks) (v ∷ vs) = Fits k v × AreCells ks vs

-- the cells of a row whose packing is not too long
abbrev pub IsRow : List Kind → List Value → Type 0
IsRow ks vs = AreCells ks vs × (length (row_code vs) ≤ longest_row)

-- the bytes code no row
pub record IsNoRow (ks : List Kind) (bytes : List ℕ) : Type 0 where
  pub none : (vs : List Value) → IsRow ks vs → bytes ≡ row_code vs → ⊥

-- no cell of the kind is coded at the front
pub record IsNoCell (k : Kind) (bytes : List ℕ) : Type 0 where
  pub none : (v : Value) (rest : List ℕ) → Fits k v → bytes ≡ cell_code v ++ rest → ⊥

-- a cell of the kind is coded in the first n bytes
pub record IsCell (k : Kind) (bytes : List ℕ) (v : Value) (n : ℕ) : Type 0 where
  pub fits : Fits k v
  pub code : bytes ≡ cell_code v ++ drop n bytes
  pub within : n ≤ length bytes

-- whatever cell of the kind is coded at the front, its coding has n bytes
pub record IsCellSkip (k : Kind) (bytes : List ℕ) (n : ℕ) : Type 0 where
  pub within : n ≤ length bytes
  pub past : (v : Value) (more : List ℕ) → Fits k v → bytes ≡ cell_code v ++ more → more ≡ drop n bytes
