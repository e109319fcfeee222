-- Ranges of coded keys, for a comparison with the first key column of a root table.
use Rattle.std.specs.Prelude.{◌≡◌, ◌≢◌, not, ℕ, ◌+◌, ◌-◌, ◌<◌, ◌≤◌, List, [], ◌∷◌, Bool, true, false, ◌&&◌, length, take, nat_lt, slice_index, if◌then◌else◌}
use Rattle.span_keycode.specs.declared.range.RangeComparison.{RangeComparison}
use Rattle.span_keycode.specs.declared.range.RangeComparison.TheVariants.{Equal, Less, AtMost, Greater, AtLeast}
use Rattle.std.specs.Ordering.{is_eq, is_lt, is_gt}
use Rattle.std.specs.declared.cmp.Ordering.{Ordering}
use Rattle.std.specs.declared.cmp.Ordering.TheVariants as order
use Rattle.span_value.specs.declared.value.Value.{Value}
use Rattle.span_value.specs.declared.value.Value.TheVariants.{Null, Int, Str, Bytes, Bool as Flag}
use Rattle.span_keycode.specs.Order.{byte_order}
use Rattle.span_schema.specs.declared.layout.KeyPart.{KeyPart}
use Rattle.span_keycode.specs.Coding.{column_code, value_cmp}

-- a byte in front of what comes after the others: if nothing does, the byte and 1 more, unless it is 255
abbrev pub in_front : ℕ → List ℕ → List ℕ
in_front b [] = (if nat_lt b 255 then (b + 1) ∷ [] else [])
in_front b (c ∷ cs) = b ∷ c ∷ cs

-- the first bytes after all that begin with these: without the bytes 255 at the end, and with 1 added to the last
abbrev pub next_after : List ℕ → List ℕ
next_after [] = []
next_after (b ∷ bs) = in_front b (next_after bs)

-- the first n bytes are left, without those of 255 at the end
pub record IsKept (bytes : List ℕ) (n : ℕ) : Type 0 where
  pub within : n ≤ length bytes
  pub next : next_after bytes ≡ next_after (take n bytes)
  pub last : 0 < n → slice_index bytes (n - 1) < 255

-- the first bytes of the range; code is the table's number and the coding of the value
abbrev pub low_of : ℕ → Bool → RangeComparison → List ℕ → List ℕ
low_of table d Equal code = code
low_of table false Less code = table ∷ 1 ∷ []
low_of table false AtMost code = table ∷ 1 ∷ []
low_of table false Greater code = next_after code
low_of table false AtLeast code = code
low_of table true Less code = next_after code
low_of table true AtMost code = code
low_of table true Greater code = table ∷ 254 ∷ []
low_of table true AtLeast code = table ∷ 254 ∷ []

-- the first bytes after the range
abbrev pub high_of : ℕ → Bool → RangeComparison → List ℕ → List ℕ
high_of table d Equal code = next_after code
high_of table false Less code = code
high_of table false AtMost code = next_after code
high_of table false Greater code = (table + 1) ∷ []
high_of table false AtLeast code = (table + 1) ∷ []
high_of table true Less code = table ∷ 255 ∷ []
high_of table true AtMost code = table ∷ 255 ∷ []
high_of table true Greater code = code
high_of table true AtLeast code = next_after code

-- whether a comparison holds where its operands compare so
abbrev pub holds : RangeComparison → Ordering → Bool
holds Equal o = is_eq o
holds Less o = is_lt o
holds AtMost o = not (is_gt o)
holds Greater o = is_gt o
holds AtLeast o = not (is_lt o)

abbrev pub is_null : Value → Bool
is_null Null = true
is_null (Int i) = false
is_null (Str s) = false
is_null (Bytes s) = false
is_null (Flag b) = false

-- whether a value compares so with another; NULL compares with nothing
abbrev pub compares : RangeComparison → Value → Value → Bool
compares op w v = not (is_null w) && (not (is_null v) && holds op (value_cmp w v))

-- the first bytes of the range of a comparison with a value, and the first after it: none is between them where the value is NULL
abbrev pub range_start : ℕ → KeyPart → RangeComparison → Value → List ℕ
range_start t c op v = (if is_null v then [] else low_of t c.desc op (t ∷ column_code c v))

abbrev pub range_end : ℕ → KeyPart → RangeComparison → Value → List ℕ
range_end t c op v = (if is_null v then [] else high_of t c.desc op (t ∷ column_code c v))

-- at or above the first bytes of a range, and before the first after it
abbrev pub IsWithin : List ℕ → List ℕ → List ℕ → Type 0
IsWithin low high key = (byte_order key low ≢ order.Less) × (byte_order key high ≡ order.Less)
