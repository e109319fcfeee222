-- Rows read into the last of some rows.
use Rattle.std.specs.Prelude.{◌≡◌, ℕ, ◌≤◌, List, [], ◌∷◌, ◌++◌, Bool, length}
use Rattle.span_value.specs.declared.value.Value.{Value}
use Rattle.span_value.specs.declared.value.Kind.{Kind}
use Rattle.span_schema.specs.declared.table.Table.{Table}
use Rattle.span_rowcode.specs.Rows.{row_code}
use Rattle.span_mutate.specs.declared.row.TableRow.{TableRow}
use Rattle.span_mutate.specs.Typed.{IsTyped}
use Rattle.span_shard.specs.Rows.{code_of}
use Rattle.span_query.specs.Rows.{Row}
use Rattle.span_columns.specs.Picks.{picked}
use Rattle.span_entries.specs.Meaning.{declared_row}
use Rattle.span_rowreader.specs.Placed.{IsCellPut, AreCellsPut}

-- the rows are these and a last one of a number of values, of which P holds
pub record IsLastOf (width : ℕ) (P : List Value → Type 0) (rows new : List Row) : Type 0 where
  pub last : Row
  pub are : new ≡ rows ++ last ∷ []
  pub wide : length last ≡ width
  pub holds : P last

-- whatever rows and a last one of a number of values there were, only the last is another, and P holds of the two
pub record IsLastPut (width : ℕ) (P : List Value → List Value → Type 0) (old new : List Row) : Type 0 where
  pub put : (rows : List Row) (row : Row) → old ≡ rows ++ row ∷ [] → length row ≡ width → IsLastOf width (P row) rows new

-- the cell at the front, of n bytes, was put at its place in the last row
pub record IsCellPutInLast (ms : List Bool) (k : Kind) (place : ℕ) (bytes : List ℕ) (old new : List Row)
    (n : ℕ) : Type 0 where
  pub within : n ≤ length bytes
  pub put : IsLastPut (length ms) (λ row last. IsCellPut ms k place bytes row last n) old new

-- whatever cells the bytes code, they were put at their places in the last row, and found is true
abbrev pub AreLastCellsPut : List Kind → List ℕ → List Bool → List ℕ → List Row → List Row → Bool → Type 0
AreLastCellsPut ks places ms bytes old new found =
    IsLastPut (length ms) (λ row last. AreCellsPut ks places ms bytes row last found) old new

-- whatever row of table n has this coded key and these packed cells, its values in the columns that the mask has were added to the rows
pub record IsRowAdded (schema : List Table) (n : ℕ) (ms : List Bool) (key row : List ℕ) (old new : List Row) : Type 0 where
  pub of : (t : TableRow) → IsTyped schema t → t.table ≡ n → key ≡ code_of schema t → row ≡ row_code t.cells
      → new ≡ old ++ picked ms (declared_row schema t) ∷ []
