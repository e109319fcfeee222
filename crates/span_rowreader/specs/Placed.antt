-- The values of a row put at their places among the columns of its table, as far as a mask has the places.
use Rattle.std.specs.Prelude.{◌≡◌, ℕ, ◌≤◌, List, [], ◌∷◌, ◌++◌, Bool, true, false, not, length, drop, slice_set, slice_index_or, if◌then◌else◌}
use Rattle.std.specs.List.{list_all}
use Rattle.span_value.specs.declared.value.Value.{Value}
use Rattle.span_value.specs.declared.value.Kind.{Kind}
use Rattle.span_schema.specs.declared.table.Table.{Table}
use Rattle.span_schema.specs.declared.layout.KeyPart.{KeyPart}
use Rattle.span_keycode.specs.Coding.{Fits, column_code}
use Rattle.span_keycode.specs.Keys.{IsKey, key_code}
use Rattle.span_keycode.specs.Reads.{IsColumn}
use Rattle.span_rowcode.specs.Rows.{IsCell, IsRow, cell_code, row_code}
use Rattle.span_mutate.specs.declared.row.TableRow.{TableRow}
use Rattle.span_mutate.specs.Typed.{IsTyped}
use Rattle.span_shard.specs.Rows.{code_of}
use Rattle.span_leaves.specs.Masks.{masked}
use Rattle.span_entries.specs.Meaning.{declared_row}

-- a mask has a place
abbrev pub is_wanted : List Bool → ℕ → Bool
is_wanted ms place = slice_index_or ms place false

-- a mask has none of the places
abbrev pub wants_none : List Bool → List ℕ → Bool
wants_none ms places = list_all (λ p. not (is_wanted ms p)) places

-- a row with a value at a place, if the mask has it
abbrev pub put : List Bool → ℕ → Value → List Value → List Value
put ms place v row = if is_wanted ms place then slice_set row place v else row

-- a row with values at their places, as far as the mask has these
abbrev pub placed : List Bool → List ℕ → List Value → List Value → List Value
placed ms [] vs row = row
placed ms (p ∷ ps) [] row = row
placed ms (p ∷ ps) (v ∷ vs) row = placed ms ps vs (put ms p v row)

-- a value of the column is coded in the first n bytes, and was put at a place
pub record IsColumnRead (c : KeyPart) (place : ℕ) (bytes : List ℕ) (old new : List Value) (n : ℕ) : Type 0 where
  pub value : Value
  pub read : IsColumn c bytes value n
  pub put : new ≡ slice_set old place value

-- whatever value of the column is coded at the front, in n bytes, it was put at its place
pub record IsColumnPut (ms : List Bool) (c : KeyPart) (place : ℕ) (bytes : List ℕ) (old new : List Value)
    (n : ℕ) : Type 0 where
  pub within : n ≤ length bytes
  pub put : (v : Value) (more : List ℕ) → Fits c.kind v → bytes ≡ column_code c v ++ more
      → (new ≡ put ms place v old) × (more ≡ drop n bytes)

-- whatever key of table n the bytes code, its values were put at these places, and found is true
pub record IsKeyPut (schema : List Table) (n : ℕ) (places : List ℕ) (ms : List Bool) (bytes : List ℕ)
    (old new : List Value) (found : Bool) : Type 0 where
  pub put : (vs : List Value) → IsKey schema n vs → bytes ≡ key_code schema n vs
      → (found ≡ true) × (new ≡ placed ms places vs old)

-- a cell of the kind is coded in the first n bytes, and was put at a place
pub record IsCellRead (k : Kind) (place : ℕ) (bytes : List ℕ) (old new : List Value) (n : ℕ) : Type 0 where
  pub value : Value
  pub read : IsCell k bytes value n
  pub put : new ≡ slice_set old place value

-- whatever cell of the kind is coded at the front, in n bytes, it was put at its place
pub record IsCellPut (ms : List Bool) (k : Kind) (place : ℕ) (bytes : List ℕ) (old new : List Value)
    (n : ℕ) : Type 0 where
  pub within : n ≤ length bytes
  pub put : (v : Value) (more : List ℕ) → Fits k v → bytes ≡ cell_code v ++ more
      → (new ≡ put ms place v old) × (more ≡ drop n bytes)

-- whatever cells the bytes code, they were put at their places, and found is true
pub record AreCellsPut (ks : List Kind) (places : List ℕ) (ms : List Bool) (bytes : List ℕ) (old new : List Value)
    (found : Bool) : Type 0 where
  pub put : (vs : List Value) → IsRow ks vs → bytes ≡ row_code vs → (found ≡ true) × (new ≡ placed ms places vs old)

-- whatever row of table n has this coded key and these packed cells, these are its values in the order in which the columns are declared, NULL at the
-- places that the mask does not have
pub record AreValuesOf (schema : List Table) (n : ℕ) (ms : List Bool) (key row : List ℕ)
    (values : List Value) : Type 0 where
  pub are : (r : TableRow) → IsTyped schema r → r.table ≡ n → key ≡ code_of schema r → row ≡ row_code r.cells
      → values ≡ masked ms (declared_row schema r)

-- no row of table n has this coded key and these packed cells
pub record IsNoRowOf (schema : List Table) (n : ℕ) (key row : List ℕ) : Type 0 where
  pub none : (r : TableRow) → IsTyped schema r → r.table ≡ n → key ≡ code_of schema r → row ≡ row_code r.cells → ⊥
