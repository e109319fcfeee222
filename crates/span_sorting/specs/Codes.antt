-- Numbers that are in the order of values: rows are compared by those of their first two keys before their values.
use Rattle.std.specs.Prelude.{◌≡◌, ℕ, zero, suc, ◌+◌, ◌-◌, ◌*◌, ◌^◌, Bool, true, false, ◌&&◌, List, [], ◌∷◌, FitsSigned, if◌then◌else◌}
use Rattle.std.specs.Int.{w64}
use Rattle.std.specs.List.{AllByRecursion}
use Rattle.std.specs.Ordering.{nat_cmp, is_lt}
use Rattle.std.specs.declared.cmp.Ordering.{Ordering}
use Rattle.std.specs.declared.cmp.Ordering.TheVariants.{Equal}
pub use Rattle.span_value.specs.Numbers.{AreBytes, to_unsigned}
use Rattle.span_value.specs.declared.value.Value.{Value}
use Rattle.span_value.specs.declared.value.Value.TheVariants as value
use Rattle.span_expr.specs.Operators.{column_of}
use Rattle.span_query.specs.declared.query.SortKey.{SortKey}
use Rattle.span_query.specs.Rows.{Row}
use Rattle.span_query.specs.Sorting.{or_next, row_order}
use Rattle.span_sorting.specs.declared.coded.CodedRow.{CodedRow}
use Rattle.span_sorting.specs.declared.coded.CodedRows.{CodedRows}

-- the number with `count` bytes more as its last digits; a byte that is not there counts as 0
abbrev pub with_bytes : ℕ → ℕ → List ℕ → ℕ
with_bytes zero code bytes = code
with_bytes (suc count) code [] = with_bytes count (code * 256) []
with_bytes (suc count) code (b ∷ bytes) = with_bytes count (code * 256 + b) bytes

-- the rank of the value's kind, and 64 bits that rise with the value
abbrev pub code_of : Value → ℕ
code_of value.Null = 0
code_of (value.Bool false) = 2 ^ 64
code_of (value.Bool true) = 2 ^ 64 + 1
code_of (value.Int n) = 2 * 2 ^ 64 + to_unsigned n
code_of (value.Str text) = with_bytes 8 3 text
code_of (value.Bytes bytes) = with_bytes 8 4 bytes

-- whether another value of the kind has another code
abbrev pub is_exact : Value → Bool
is_exact value.Null = true
is_exact (value.Bool b) = true
is_exact (value.Int n) = true
is_exact (value.Str text) = false
is_exact (value.Bytes bytes) = false

-- what the types of the code say of a value
abbrev pub IsInRange : Value → Type 0
IsInRange value.Null = Unit {0}
IsInRange (value.Bool b) = Unit {0}
IsInRange (value.Int n) = FitsSigned w64 n
IsInRange (value.Str text) = AreBytes text
IsInRange (value.Bytes bytes) = AreBytes bytes

abbrev pub value_at : SortKey → Row → Value
value_at key row = column_of row key.column

-- the code at a key; where its values descend, codes fall as values rise
abbrev pub key_code : SortKey → Row → ℕ
key_code key row = if key.is_descending then 5 * 2 ^ 64 - code_of (value_at key row) else code_of (value_at key row)

-- the code at the second of two keys, where that at the first is exact
abbrev pub next_code : SortKey → SortKey → Row → ℕ
next_code key next row = if is_exact (value_at key row) then key_code next row else 0

abbrev pub first_code : List SortKey → Row → ℕ
first_code [] row = 0
first_code (key ∷ keys) row = key_code key row

abbrev pub second_code : List SortKey → Row → ℕ
second_code [] row = 0
second_code (key ∷ []) row = 0
second_code (key ∷ next ∷ keys) row = next_code key next row

-- whether another row with these codes is equal by the keys
abbrev pub are_exact : List SortKey → Row → Bool
are_exact [] row = true
are_exact (key ∷ []) row = is_exact (value_at key row)
are_exact (key ∷ next ∷ []) row = is_exact (value_at key row) && is_exact (value_at next row)
are_exact (key ∷ next ∷ other ∷ keys) row = false

-- the same of the values that a row's codes are of
abbrev pub AreInRange : List SortKey → Row → Type 0
AreInRange [] row = Unit {0}
AreInRange (key ∷ []) row = IsInRange (value_at key row)
AreInRange (key ∷ next ∷ keys) row =
    IsInRange (value_at key row) × (is_exact (value_at key row) ≡ true → IsInRange (value_at next row))

-- the same of the value at the first key alone
abbrev pub IsFirstInRange : List SortKey → Row → Type 0
IsFirstInRange [] row = Unit {0}
IsFirstInRange (key ∷ keys) row = IsInRange (value_at key row)

-- the row with its codes
pub record IsCoded (keys : List SortKey) (x : CodedRow) : Type 0 where
  pub first : x.first ≡ first_code keys x.row.now
  pub second : x.second ≡ second_code keys x.row.now
  pub range : AreInRange keys x.row.now

-- the same, where the codes are exact if it is stated
pub record IsCodedAs (keys : List SortKey) (exact : Bool) (x : CodedRow) : Type 0 where
  pub coded : IsCoded keys x
  pub ties : exact ≡ true → are_exact keys x.row.now ≡ true

-- by the codes, then by the keys where the codes are not exact
abbrev pub code_order : List SortKey → Bool → CodedRow → CodedRow → Ordering
code_order keys exact x y =
    or_next (nat_cmp x.first y.first)
    (or_next (nat_cmp x.second y.second) (if exact then Equal else row_order keys x.row.now y.row.now))

abbrev pub code_before : List SortKey → Bool → CodedRow → CodedRow → Bool
code_before keys exact x y = is_lt (code_order keys exact x y)

-- the rows without their codes
abbrev pub uncoded : List CodedRow → List Row
uncoded [] = []
uncoded (x ∷ xs) = x.row.now ∷ uncoded xs

abbrev pub coded_rows : CodedRows → List Row
coded_rows all = uncoded all.rows.items

-- each of the rows has its codes by the keys
abbrev pub HaveCodes : List SortKey → CodedRows → Type 0
HaveCodes keys all = AllByRecursion (IsCodedAs keys all.are_exact) all.rows.items
