-- The laws of key codings.
use Rattle.std.specs.Prelude.{◌≡◌, ℕ, List, ◌∷◌, ◌++◌, ◌↔◌, true}
use Rattle.std.specs.Cmp.Lexicographic.{slice_cmp}
use Rattle.std.specs.Ordering.{nat_cmp}
use Rattle.std.specs.Str.{IsUtf8, chars}
use Rattle.span_value.specs.declared.value.Value.{Value}
use Rattle.span_schema.specs.declared.table.Table.{Table}
use Rattle.span_schema.specs.Lineages.{MeetsRules}
use Rattle.span_schema.specs.Numbers.{key_columns, own_key_columns, path_of, root_of}
use Rattle.span_schema.specs.declared.layout.KeyPart.{KeyPart}
use Rattle.span_keycode.specs.declared.range.RangeComparison.{RangeComparison}
use Rattle.span_keycode.specs.Ranges.{range_start, range_end, compares, IsWithin}
use Rattle.span_keycode.specs.Order.{byte_order, Decides}
use Rattle.span_keycode.specs.Coding.{Fits, tuple_cmp}
use Rattle.span_keycode.specs.Keys.{IsKey, key_code, key_cmp}

-- byte order of codings is the order of keys, of whichever tables
abbrev pub OrderOfKeys : Type 0
OrderOfKeys =
    (tables : List Table) → MeetsRules tables → (n m : ℕ) (vs ws : List Value) → IsKey tables n vs → IsKey tables m ws
    → byte_order (key_code tables n vs) (key_code tables m ws) ≡ key_cmp tables n vs m ws

-- codings of keys of one table compare as the key values do, column by column, whatever follows; so none begins another
abbrev pub OrderInTable : Type 0
OrderInTable =
    (tables : List Table) → MeetsRules tables → (n : ℕ) (vs ws : List Value) → IsKey tables n vs → IsKey tables n ws
    → Decides (key_code tables n vs) (key_code tables n ws) (tuple_cmp (key_columns tables n) vs ws)

-- a row's coding begins those of itself and of the rows below it, and no others
pub record IsAtOrBelow (tables : List Table) (n : ℕ) (vs : List Value) (m : ℕ) (ws : List Value) : Type 0 where
  pub tables_below : List ℕ
  pub path : path_of tables m ≡ path_of tables n ++ tables_below
  pub values_below : List Value
  pub values : ws ≡ vs ++ values_below

abbrev pub BeginsOwnRows : Type 0
BeginsOwnRows =
    (tables : List Table) → MeetsRules tables → (n m : ℕ) (vs ws : List Value) → IsKey tables n vs → IsKey tables m ws
    → ((rest : List ℕ) × (key_code tables m ws ≡ key_code tables n vs ++ rest)) ↔ IsAtOrBelow tables n vs m ws

-- a coding is that of one key
abbrev pub OneKey : Type 0
OneKey =
    (tables : List Table) → MeetsRules tables → (n m : ℕ) (vs ws : List Value) → IsKey tables n vs → IsKey tables m ws
    → key_code tables n vs ≡ key_code tables m ws → (n ≡ m) × (vs ≡ ws)

-- strings order by their characters, which is by the bytes of their UTF-8
abbrev pub OrderOfTexts : Type 0
OrderOfTexts = (bs cs : List ℕ) → IsUtf8 bs → IsUtf8 cs → byte_order bs cs ≡ slice_cmp nat_cmp (chars bs) (chars cs)

-- the range of a comparison of the first root key column c with a value has the keys of the family in which that column compares so:
-- none where the value is NULL
abbrev pub RangeOfComparison : Type 0
RangeOfComparison =
    (tables : List Table) → MeetsRules tables → (n : ℕ) (w : Value) (ws : List Value) → IsKey tables n (w ∷ ws)
    → (t : ℕ) (c : KeyPart) (cs : List KeyPart) → root_of tables n ≡ t → own_key_columns tables t ≡ c ∷ cs
    → (v : Value) → Fits c.kind v → (op : RangeComparison)
    → IsWithin (range_start t c op v) (range_end t c op v) (key_code tables n (w ∷ ws)) ↔ (compares op w v ≡ true)
