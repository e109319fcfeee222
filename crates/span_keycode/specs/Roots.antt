-- The root row of a coded key.
use Rattle.std.specs.Prelude.{◌≡◌, ℕ, ◌≤◌, List, ◌++◌, Option, Some, length, take, drop}
use Rattle.span_value.specs.declared.value.Value.{Value}
use Rattle.span_schema.specs.declared.table.Table.{Table}
use Rattle.span_schema.specs.declared.layout.KeyPart.{KeyPart}
use Rattle.span_schema.specs.Numbers.{key_columns, root_of}
use Rattle.span_keycode.specs.Coding.{Fits, AreFit, column_code, tuple_code}
use Rattle.span_keycode.specs.Keys.{IsKey, key_code}

-- the bytes code a key
pub record IsCoding (tables : List Table) (bytes : List ℕ) : Type 0 where
  pub table : ℕ
  pub values : List Value
  pub is : IsKey tables table values
  pub code : bytes ≡ key_code tables table values

-- of whatever key the bytes are the coding, the prefix is the coding of the key of its root row
pub record IsRootPrefix (tables : List Table) (bytes prefix : List ℕ) : Type 0 where
  pub root : (n : ℕ) (vs : List Value) → IsKey tables n vs → bytes ≡ key_code tables n vs
      → prefix ≡ key_code tables (root_of tables n) (take (length (key_columns tables (root_of tables n))) vs)

-- whatever value of the column is coded at the front, its coding has n bytes
pub record IsSkip (c : KeyPart) (bytes : List ℕ) (n : ℕ) : Type 0 where
  pub within : n ≤ length bytes
  pub past : (v : Value) (more : List ℕ) → Fits c.kind v → bytes ≡ column_code c v ++ more → more ≡ drop n bytes

-- the same of several columns
pub record IsTupleSkip (cs : List KeyPart) (bytes : List ℕ) (n : ℕ) : Type 0 where
  pub within : n ≤ length bytes
  pub past : (vs : List Value) (more : List ℕ) → AreFit cs vs → bytes ≡ tuple_code cs vs ++ more → more ≡ drop n bytes

-- of whatever key the bytes are the coding, that is the number of its table
pub record IsTableOf (tables : List Table) (bytes : List ℕ) (found : Option ℕ) : Type 0 where
  pub of : (n : ℕ) (vs : List Value) → IsKey tables n vs → bytes ≡ key_code tables n vs → found ≡ Some n
