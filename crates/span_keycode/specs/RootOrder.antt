-- The order of a root row's coded key and of bytes, where the coding is not made.
use Rattle.std.specs.Prelude.{◌≡◌, ℕ, List, ◌++◌, length, take}
use Rattle.std.specs.declared.cmp.Ordering.{Ordering}
use Rattle.span_value.specs.declared.value.Value.{Value}
use Rattle.span_schema.specs.declared.table.Table.{Table}
use Rattle.span_schema.specs.Numbers.{key_columns, root_of}
use Rattle.span_keycode.specs.Order.{byte_order}
use Rattle.span_keycode.specs.Keys.{key_code}

-- whatever follows the code, it compares with the bytes as o
pub record ComparesAs (code bytes : List ℕ) (o : Ordering) : Type 0 where
  pub at : (x : List ℕ) → byte_order (code ++ x) bytes ≡ o

-- the coding of the key of the root row of a key of table n
abbrev pub root_code_of : List Table → ℕ → List Value → List ℕ
root_code_of tables n key =
    key_code tables (root_of tables n) (take (length (key_columns tables (root_of tables n))) key)
