-- How far a literal reaches.
use Rattle.std.specs.Prelude.{ℕ, suc, zero, ◌+◌, ◌-◌, ◌==◌, nat_lt, Bool, false, true, not, ◌||◌, ◌&&◌, List, [], ◌∷◌, Option, Some, None, if◌then◌else◌}
use Rattle.std.specs.Option.{option_map}
use Rattle.span_lexer.specs.declared.literal.Literal.{Literal}
use Rattle.span_lexer.specs.declared.literal.Literal.TheVariants as literal
use Rattle.span_lexer.specs.Characters.{is_hex, is_escape, is_octal}

abbrev pub is_bytes : Literal → Bool
is_bytes literal.Text = false
is_bytes literal.Bytes = true

-- the digits of \x: any two in bytes, up to 7f in a string
unfoldable pub hex_length : Literal → List ℕ → Option ℕ
hex_length t [] = None
hex_length t (h ∷ []) = None
hex_length t (h ∷ l ∷ bs) = if (is_hex h && is_hex l) && (is_bytes t || is_octal h) then Some 4 else None

-- D or d, the first digit of a surrogate's code
unfoldable pub is_d : ℕ → Bool
is_d c = c == 68 || c == 100

-- the digits of \u: four, and no surrogate (d800 to dfff)
unfoldable pub unicode_length : List ℕ → Option ℕ
unicode_length [] = None
unicode_length (a ∷ []) = None
unicode_length (a ∷ b ∷ []) = None
unicode_length (a ∷ b ∷ c ∷ []) = None
unicode_length (a ∷ b ∷ c ∷ d ∷ bs) =
    if ((is_hex a && is_hex b) && (is_hex c && is_hex d)) && not (is_d a && not (is_octal b)) then Some 6 else None

-- the length of an escape with its backslash, by its letter and digits
unfoldable pub escape_length : Literal → List ℕ → Option ℕ
escape_length t [] = None
escape_length t (e ∷ bs) =
    if is_escape e then Some 2
    else (if e == 120 then hex_length t bs
    else (if e == 117 then (if is_bytes t then None else unicode_length bs) else None))

-- the length of the first character or escape; LF is none, and in bytes only ASCII is one
unfoldable pub piece_length : Literal → List ℕ → Option ℕ
piece_length t [] = None
piece_length t (b ∷ bs) =
    if b == 92 then escape_length t bs else (if b == 10 || (is_bytes t && nat_lt 127 b) then None else Some 1)

abbrev pub one_more : Option ℕ → Option ℕ
one_more o = option_map (λ n. n + 1) o

abbrev pub with_more : ℕ → Option ℕ → Option ℕ
with_more k o = option_map (λ n. k + n) o

-- The number of bytes up to and with the closing quote. The first `skip` of them belong to the piece before.
unfoldable pub closing_quote : Literal → ℕ → ℕ → List ℕ → Option ℕ
closing_quote t q skip [] = None
closing_quote t q zero (b ∷ bs) =
    if b == q then Some 1 else elim (piece_length t (b ∷ bs))
    [ None ↦ None | Some n ↦ one_more (closing_quote t q (n - 1) bs) ]
closing_quote t q (suc skip) (b ∷ bs) = one_more (closing_quote t q skip bs)
