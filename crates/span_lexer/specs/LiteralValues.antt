-- The value of a string or bytes literal: its characters, each written plainly or by an escape.
use Rattle.std.specs.Prelude.{ℕ, zero, suc, ◌+◌, ◌-◌, ◌*◌, ◌%◌, ◌==◌, nat_lt, nat_le, ◌&&◌, List, [], ◌∷◌, length, take, drop, map, chars, Option, Some, None, if◌then◌else◌}
use Rattle.std.specs.Str.{encode_utf8_all}

-- the value of a hexadecimal digit in either case: 0 to 9 from 48 on, A to F from 65 on, a to f from 97 on; no literal
-- has another character as a digit
unfoldable pub digit : ℕ → ℕ
digit c =
    if nat_le 48 c && nat_lt c 58 then c - 48
    else (if nat_le 65 c && nat_lt c 71 then c - 55 else (if nat_le 97 c && nat_lt c 103 then c - 87 else 0))

-- the character with this code; no literal has the code of a surrogate
abbrev pub character : ℕ → ℕ
character n = if nat_le 55296 n && nat_lt n 57344 then 65533 else n

-- the number that two digits write, and the rest; no literal has fewer
unfoldable pub two_digits : List ℕ → Option (ℕ × List ℕ)
two_digits [] = None
two_digits (h ∷ []) = None
two_digits (h ∷ l ∷ cs) = Some (digit h * 16 + digit l, cs)

-- the same of four digits
unfoldable pub four_digits : List ℕ → Option (ℕ × List ℕ)
four_digits [] = None
four_digits (a ∷ []) = None
four_digits (a ∷ b ∷ []) = None
four_digits (a ∷ b ∷ c ∷ []) = None
four_digits (a ∷ b ∷ c ∷ d ∷ cs) = Some (((digit a * 16 + digit b) * 16 + digit c) * 16 + digit d, cs)

-- the character code of an escape, by its letter and its digits, if it has one, and the rest
abbrev pub code_of : ℕ → List ℕ → Option (ℕ × List ℕ)
code_of c cs = if c == 120 then two_digits cs else (if c == 117 then four_digits cs else None)

-- the character of an escape that has no digits: n is LF, r is CR, t is a tab, and a quote or a backslash is itself
abbrev pub letter_escape : ℕ → ℕ
letter_escape c = if c == 110 then 10 else (if c == 114 then 13 else (if c == 116 then 9 else c))

-- the character of an escape, by its letter and the characters after that, and the rest
abbrev pub escape_or_letter : Option (ℕ × List ℕ) → ℕ → List ℕ → ℕ × List ℕ
escape_or_letter None c cs = (letter_escape c, cs)
escape_or_letter (Some p) c cs = (character p.0, p.1)

abbrev pub read_escape : ℕ → List ℕ → ℕ × List ℕ
read_escape c cs = escape_or_letter (code_of c cs) c cs

-- the character of the escape that a backslash begins, and the rest; no literal ends in a backslash
abbrev pub read_after_backslash : List ℕ → ℕ × List ℕ
read_after_backslash [] = (92, [])
read_after_backslash (c ∷ cs) = read_escape c cs

-- the first character of the value, and the rest
abbrev pub decode_first : ℕ → List ℕ → ℕ × List ℕ
decode_first c cs = if c == 92 then read_after_backslash cs else (c, cs)

-- at most n characters of the value
unfoldable pub decode_up_to : ℕ → List ℕ → List ℕ
decode_up_to zero cs = []
decode_up_to (suc n) [] = []
decode_up_to (suc n) (c ∷ cs) = (decode_first c cs).0 ∷ decode_up_to n (decode_first c cs).1

-- all characters of the value: each is written with one character at least
unfoldable pub decode_all : List ℕ → List ℕ
decode_all cs = decode_up_to (length cs) cs

-- all but the last one
abbrev pub before_last : List ℕ → List ℕ
before_last cs = take (length cs - 1) cs

-- what is between the quotes, which are the first character and the last one
abbrev pub between_quotes : List ℕ → List ℕ
between_quotes cs = before_last (drop 1 cs)

-- the text of a string literal, spelt with its quotes
abbrev pub text_of : List ℕ → List ℕ
text_of spelled = encode_utf8_all (decode_all (between_quotes (chars spelled)))

-- each as a byte; no character of a BYTES literal has another code
abbrev pub as_bytes : List ℕ → List ℕ
as_bytes cs = map (λ (c : ℕ). c % 256) cs

-- the bytes of a BYTES literal, spelt with its mark and its quotes
abbrev pub bytes_of : List ℕ → List ℕ
bytes_of spelled = as_bytes (decode_all (between_quotes (drop 1 (chars spelled))))
