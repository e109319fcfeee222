-- What reading finds at the front of bytes.
use Rattle.std.specs.Prelude.{◌≡◌, ℕ, ◌≤◌, List, ◌++◌, length, drop}
use Rattle.span_value.specs.declared.value.Value.{Value}
use Rattle.span_value.specs.declared.value.Kind.{Kind}
use Rattle.span_schema.specs.declared.table.Table.{Table}
use Rattle.span_schema.specs.declared.layout.KeyPart.{KeyPart}
use Rattle.span_keycode.specs.Coding.{Fits, AreFit, plain, column_code, tuple_code}
use Rattle.span_keycode.specs.Keys.{IsKey, IsCodedKey, key_code}

-- no value of the kind is coded at the front, in ascending direction
pub record IsNoPlain (kind : Kind) (bytes : List ℕ) : Type 0 where
  pub none : (v : Value) (rest : List ℕ) → Fits kind v → bytes ≡ plain v ++ rest → ⊥

-- bytes, turned to ascending, begin with the coding of a value; rest is what follows
pub record IsPlain (kind : Kind) (bytes : List ℕ) (v : Value) (rest : List ℕ) : Type 0 where
  pub fits : Fits kind v
  pub code : bytes ≡ plain v ++ rest

-- no value of the column is coded at the front
pub record IsNoColumn (c : KeyPart) (bytes : List ℕ) : Type 0 where
  pub none : (v : Value) (rest : List ℕ) → Fits c.kind v → bytes ≡ column_code c v ++ rest → ⊥

-- a value of the column is coded in the first n bytes
pub record IsColumn (c : KeyPart) (bytes : List ℕ) (v : Value) (n : ℕ) : Type 0 where
  pub fits : Fits c.kind v
  pub code : bytes ≡ column_code c v ++ drop n bytes
  pub within : n ≤ length bytes

-- no values of the columns are coded at the front
pub record IsNoTuple (cs : List KeyPart) (bytes : List ℕ) : Type 0 where
  pub none : (vs : List Value) (rest : List ℕ) → AreFit cs vs → bytes ≡ tuple_code cs vs ++ rest → ⊥

-- values of the columns, which were added to others, are coded in the first n bytes
pub record IsTuple (cs : List KeyPart) (bytes : List ℕ) (before after : List Value) (n : ℕ) : Type 0 where
  pub values : List Value
  pub added : after ≡ before ++ values
  pub fits : AreFit cs values
  pub code : bytes ≡ tuple_code cs values ++ drop n bytes
  pub within : n ≤ length bytes

-- the bytes code no key
pub record IsNoKey (tables : List Table) (bytes : List ℕ) : Type 0 where
  pub none : (n : ℕ) (vs : List Value) → IsCodedKey tables n vs → bytes ≡ key_code tables n vs → ⊥

-- the same of keys of any length
pub record IsUncoded (tables : List Table) (bytes : List ℕ) : Type 0 where
  pub none : (n : ℕ) (vs : List Value) → IsKey tables n vs → bytes ≡ key_code tables n vs → ⊥
