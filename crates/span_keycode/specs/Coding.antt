-- The coding of one column's value, and of a tuple of them.
use Rattle.std.specs.Prelude.{◌≡◌, ℕ, zero, suc, List, [], ◌∷◌, ◌++◌, Bool, true, false, ◌&&◌}
use Rattle.std.specs.Ordering.{nat_cmp, int_cmp, ordering_then, ordering_reverse}
use Rattle.std.specs.Int.{to_be_bytes, w64}
use Rattle.std.specs.declared.cmp.Ordering.{Ordering}
use Rattle.std.specs.declared.cmp.Ordering.TheVariants.{Less, Equal, Greater}
pub use Rattle.span_value.specs.Numbers.{to_unsigned}
use Rattle.span_value.specs.declared.value.Kind.{Kind}
use Rattle.span_value.specs.declared.value.Value.{Value}
use Rattle.span_value.specs.declared.value.Value.TheVariants.{Null, Int, Str, Bytes, Bool as Flag}
use Rattle.span_schema.specs.declared.layout.KeyPart.{KeyPart}
pub use Rattle.span_schema.specs.Fitting.{AreBytes, Fits, is_of_kind}
use Rattle.span_keycode.specs.Order.{complement, byte_order}

abbrev pub escaped_byte : ℕ → List ℕ → List ℕ
escaped_byte zero rest = 0 ∷ 255 ∷ rest
escaped_byte (suc b) rest = suc b ∷ rest

-- each byte 0 as 0 255, and 0 1 at the end
abbrev pub escaped : List ℕ → List ℕ
escaped [] = 0 ∷ 1 ∷ []
escaped (b ∷ bs) = escaped_byte b (escaped bs)

abbrev pub bit : Bool → ℕ
bit false = 0
bit true = 1

-- the coding in an ascending column
abbrev pub plain : Value → List ℕ
plain Null = 0 ∷ []
plain (Int i) = 1 ∷ to_be_bytes w64 (to_unsigned i)
plain (Str bs) = 1 ∷ escaped bs
plain (Bytes bs) = 1 ∷ escaped bs
plain (Flag b) = 1 ∷ bit b ∷ []

-- bytes as they are in a column that is descending or not
abbrev pub in_direction : Bool → List ℕ → List ℕ
in_direction false bytes = bytes
in_direction true bytes = complement bytes

abbrev pub column_code : KeyPart → Value → List ℕ
column_code c v = in_direction c.desc (plain v)

-- NULL first, and then numbers by size, strings and bytes by their bytes, FALSE before TRUE
abbrev pub value_cmp : Value → Value → Ordering
value_cmp Null Null = Equal
value_cmp Null w = Less
value_cmp v Null = Greater
value_cmp (Int i) (Int j) = int_cmp i j
value_cmp (Str bs) (Str cs) = byte_order bs cs
value_cmp (Bytes bs) (Bytes cs) = byte_order bs cs
value_cmp (Flag a) (Flag b) = nat_cmp (bit a) (bit b)
value_cmp v w = Equal

abbrev pub apply_direction : Bool → Ordering → Ordering
apply_direction false o = o
apply_direction true o = ordering_reverse o

abbrev pub column_cmp : KeyPart → Value → Value → Ordering
column_cmp c v w = apply_direction c.desc (value_cmp v w)

-- one value for each column, and each fits
abbrev pub AreFit : List KeyPart → List Value → Type 0
AreFit [] [] = Unit {0}
AreFit [] (v ∷ vs) = ⊥
AreFit (c ∷ cs) [] = ⊥
AreFit (c ∷ cs) (v ∷ vs) = Fits c.kind v × AreFit cs vs

abbrev pub are_of_kinds : List KeyPart → List Value → Bool
are_of_kinds [] [] = true
are_of_kinds [] (v ∷ vs) = false
are_of_kinds (c ∷ cs) [] = false
are_of_kinds (c ∷ cs) (v ∷ vs) = is_of_kind c.kind v && are_of_kinds cs vs

-- a value that is of a kind fits it, as those of a running program do
abbrev pub IsValue : Value → Type 0
IsValue v = (k : Kind) → is_of_kind k v ≡ true → Fits k v

-- values that are of the kinds of columns fit them, as those of a running program do
abbrev pub AreValues : List Value → Type 0
AreValues vs = (cs : List KeyPart) → are_of_kinds cs vs ≡ true → AreFit cs vs

-- the codings of the columns, one after another
abbrev pub tuple_code : List KeyPart → List Value → List ℕ
tuple_code [] vs = []
tuple_code (c ∷ cs) [] = []
tuple_code (c ∷ cs) (v ∷ vs) = column_code c v ++ tuple_code cs vs

-- column by column
abbrev pub tuple_cmp : List KeyPart → List Value → List Value → Ordering
tuple_cmp [] vs ws = Equal
tuple_cmp (c ∷ cs) [] ws = Equal
tuple_cmp (c ∷ cs) (v ∷ vs) [] = Equal
tuple_cmp (c ∷ cs) (v ∷ vs) (w ∷ ws) = ordering_then (column_cmp c v w) (tuple_cmp cs vs ws)
