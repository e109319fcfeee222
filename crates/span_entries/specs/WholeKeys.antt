-- The table of a coded key by the key's length.
use Rattle.std.specs.Prelude.{◌≡◌, ◌≢◌, ℕ, ◌+◌, ◌-◌, ◌*◌, ◌%◌, List, Bool, true, false, ◌&&◌, length, get_or, nat_eq, nat_lt}
use Rattle.std.specs.List.{list_all}
use Rattle.span_value.specs.declared.value.Value.{Value}
use Rattle.span_value.specs.declared.value.Kind.{Kind}
use Rattle.span_value.specs.declared.value.Kind.TheVariants as kind
use Rattle.span_schema.specs.declared.table.Table.{Table}
use Rattle.span_schema.specs.declared.layout.KeyPart.{KeyPart}
use Rattle.span_schema.specs.Numbers.{IsTable, key_columns, own_key_columns, path_of, root_of}
use Rattle.span_keycode.specs.Keys.{IsKey, key_code}
use Rattle.span_entries.specs.declared.whole_key.WholeKey.{WholeKey}
use Rattle.span_entries.specs.Entries.{IsWhetherOf}

abbrev pub is_number_kind : Kind → Bool
is_number_kind kind.Int = true
is_number_kind kind.Str = false
is_number_kind kind.Bytes = false
is_number_kind kind.Bool = false

-- a column of numbers
abbrev pub is_number : KeyPart → Bool
is_number c = is_number_kind c.kind

-- the whole keys of table n, which have no NULL; all their columns are of numbers: a byte for each level and nine for each number, the table's own at the end
pub record IsWholeKey (schema : List Table) (n : ℕ) (at : WholeKey) : Type 0 where
  pub numbers : list_all is_number (key_columns schema n) ≡ true
  pub len : at.len ≡ length (path_of schema n) + 9 * length (key_columns schema n)
  pub root : at.root ≡ root_of schema n
  pub place : at.place + (1 + 9 * length (own_key_columns schema n)) ≡ at.len

-- each key of table m that has the length of these whole keys, and begins with their root, has the number of m at their place
pub record HasNumberAt (schema : List Table) (at : WholeKey) (m : ℕ) : Type 0 where
  pub of : (vs : List Value) → IsKey schema m vs → length (key_code schema m vs) ≡ at.len
      → get_or (key_code schema m vs) 0 0 ≡ at.root → get_or (key_code schema m vs) at.place 0 ≡ m

-- they are the whole keys of table n, and this holds of each table
pub record IsTableByLength (schema : List Table) (n : ℕ) (at : WholeKey) : Type 0 where
  pub whole : IsWholeKey schema n at
  pub each : (m : ℕ) → IsTable schema m → HasNumberAt schema at m

-- a key of a table with the second whole keys has the length of the first ones only where it has no NULL, and then the number of its table is at the same place
pub record IsDecided (at whole : WholeKey) : Type 0 where
  pub by : (nulls : ℕ) → at.len + 8 * nulls ≡ whole.len → (nulls ≡ 0) × (whole.place ≡ at.place)

-- whole keys of which some numbers are NULL never have this length
pub record IsNoLengthOf (whole : WholeKey) (len : ℕ) : Type 0 where
  pub by : (nulls : ℕ) → len + 8 * nulls ≢ whole.len

-- no key of table m has this length
pub record HasOtherLengths (schema : List Table) (len m : ℕ) : Type 0 where
  pub of : (vs : List Value) → IsKey schema m vs → length (key_code schema m vs) ≢ len

-- they are the whole keys of table n, and no key of another table has their length
pub record IsOwnLength (schema : List Table) (n : ℕ) (at : WholeKey) : Type 0 where
  pub whole : IsWholeKey schema n at
  pub others : (m : ℕ) → IsTable schema m → m ≢ n → HasOtherLengths schema at.len m

-- a length less by a number of eights than that of the whole keys: these may have it with as many NULLs
abbrev pub is_undecided : WholeKey → ℕ → Bool
is_undecided at len = nat_lt len at.len && nat_eq ((at.len - len) % 8) 0

-- of whatever row the coded key is that has this length, the answer is whether it is one of table n
pub record IsWhetherOfLength (schema : List Table) (n len : ℕ) (found : Bool) : Type 0 where
  pub of : (key : List ℕ) → length key ≡ len → IsWhetherOf schema n key found
