-- The cell that a value is written as in a record, and of which kinds a value is.
use Rattle.std.specs.Prelude.{◌≡◌, ◌≢◌, ℕ, length, slice_index, ◌+◌, ◌-◌, ◌*◌, ◌/◌, ◌%◌, ◌<◌, ◌==◌, nat_lt, Bool, true, false, not, ◌&&◌, ◌||◌, List, [], ◌∷◌, if◌then◌else◌, Option, Some, None, FitsSigned}
use Rattle.std.specs.Int.{w64}
use Rattle.std.specs.Option.{option_map}
use Rattle.std.specs.Fmt.{signed_decimal}
use Rattle.std.specs.Char.{digit_char}
use Rattle.std.specs.List.{All}
use Rattle.span_value.specs.declared.value.Value.{Value}
use Rattle.span_value.specs.declared.value.Value.TheVariants as value
use Rattle.span_value.specs.declared.value.Kind.{Kind}
use Rattle.span_value.specs.declared.value.Kind.TheVariants as kind

-- a text with each backslash doubled
unfoldable pub escaped : List ℕ → List ℕ
escaped [] = []
escaped (b ∷ bs) = if b == 92 then 92 ∷ 92 ∷ escaped bs else b ∷ escaped bs

-- each byte as two hexadecimal digits in lower case
unfoldable pub hex_pairs : List ℕ → List ℕ
hex_pairs [] = []
hex_pairs (b ∷ bs) = digit_char (b / 16) ∷ digit_char (b % 16) ∷ hex_pairs bs

-- The cell of a value: NULL is \N, a BOOL `true` or `false`, an INT64 in decimal, a STRING its text with each backslash
-- doubled, BYTES \x and two hexadecimal digits a byte.
abbrev pub cell_of : Value → List ℕ
cell_of value.Null = 92 ∷ 78 ∷ []
cell_of (value.Bool true) = 116 ∷ 114 ∷ 117 ∷ 101 ∷ []
cell_of (value.Bool false) = 102 ∷ 97 ∷ 108 ∷ 115 ∷ 101 ∷ []
cell_of (value.Int n) = signed_decimal n
cell_of (value.Str text) = escaped text
cell_of (value.Bytes bytes) = 92 ∷ 120 ∷ hex_pairs bytes

-- the value is of the kind; NULL is of every kind
abbrev pub IsOfKind : Kind → Value → Type 0
IsOfKind kind value.Null = Unit {0}
IsOfKind kind.Bool (value.Bool b) = Unit {0}
IsOfKind kind.Int (value.Int n) = FitsSigned w64 n
IsOfKind kind.Str (value.Str text) = Unit {0}
IsOfKind kind.Bytes (value.Bytes bytes) = All (λ b. b < 256) bytes
IsOfKind kind v = ⊥

-- the text is the cell of a value of the kind
abbrev pub IsCell : Kind → Value → List ℕ → Type 0
IsCell kind v text = IsOfKind kind v × (cell_of v ≡ text)

-- ---- reading

-- of a number with a sign or none: no plus, no leading zero but where it is all, and no minus before zero
abbrev pub is_shortest : List ℕ → Bool
is_shortest bs =
    nat_lt (length bs) 2
    || (if slice_index bs 0 == 45 then not (slice_index bs 1 == 48)
    else not (slice_index bs 0 == 48) && not (slice_index bs 0 == 43))

-- the text before its backslashes were doubled, if there is one; true: the byte before is the first backslash of a pair
unfoldable pub unescaped_after : Bool → List ℕ → Option (List ℕ)
unescaped_after false [] = Some []
unescaped_after true [] = None
unescaped_after false (b ∷ bs) =
    if b == 92 then unescaped_after true bs else option_map (λ w. b ∷ w) (unescaped_after false bs)
unescaped_after true (b ∷ bs) = if b == 92 then option_map (λ w. 92 ∷ w) (unescaped_after false bs) else None

abbrev pub unescaped : List ℕ → Option (List ℕ)
unescaped bs = unescaped_after false bs

-- the value of a hexadecimal digit in lower case
unfoldable pub half_byte : ℕ → Option ℕ
half_byte c =
    if nat_lt c 48 then None else (if nat_lt c 58 then Some (c - 48)
    else (if nat_lt c 97 then None else (if nat_lt c 103 then Some (c - 87) else None)))

abbrev pub byte_of : Option ℕ → Option ℕ → Option (List ℕ) → Option (List ℕ)
byte_of (Some high) (Some low) (Some bytes) = Some ((high * 16 + low) ∷ bytes)
byte_of high low bytes = None

-- the bytes that the pairs of digits represent
unfoldable pub decoded_hex : List ℕ → Option (List ℕ)
decoded_hex [] = Some []
decoded_hex (high ∷ []) = None
decoded_hex (high ∷ low ∷ bs) = byte_of (half_byte high) (half_byte low) (decoded_hex bs)

-- there is no backslash in the text
abbrev pub IsClean : List ℕ → Type 0
IsClean bs = (i : ℕ) → i < length bs → slice_index bs i ≢ 92
