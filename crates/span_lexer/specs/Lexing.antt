-- What a text begins with, and the tokens of a whole text.
use Rattle.std.specs.Prelude.{ℕ, zero, suc, ◌+◌, ◌-◌, ◌*◌, ◌<◌, ◌≤◌, ◌==◌, nat_lt, Bool, not, ◌&&◌, ◌||◌, List, [], ◌∷◌, take, Option, Some, None, if◌then◌else◌}
use Rattle.std.specs.Option.{option_map}
use Rattle.std.specs.List.{prefix_len}
use Rattle.span_lexer.specs.declared.token.TokenKind.{TokenKind}
use Rattle.span_lexer.specs.declared.token.TokenKind.TheVariants as kind
use Rattle.span_lexer.specs.declared.token.Token.{Token}
use Rattle.span_lexer.specs.declared.token.Word.{Word}
use Rattle.span_lexer.specs.declared.token.Sign.TheVariants as sign
use Rattle.span_lexer.specs.declared.literal.Literal.TheVariants as literal
use Rattle.span_lexer.specs.declared.lexer.LexResult.{LexResult}
use Rattle.span_lexer.specs.declared.lexer.LexResult.TheVariants as lex_result
use Rattle.span_lexer.specs.Characters.{is_blank, is_letter, is_digit, is_word, is_quote, is_mark, begins}
use Rattle.span_lexer.specs.Spellings.{reserved_word}
use Rattle.span_lexer.specs.Literals.{closing_quote}

-- the greatest integer of a text, and the longest word
abbrev pub greatest_integer : ℕ
greatest_integer = 9223372036854775807

abbrev pub longest_word : ℕ
longest_word = 128

-- the number of letters, digits and _ that the bytes begin with
abbrev pub word_length : List ℕ → ℕ
word_length bs = prefix_len is_word bs

abbrev pub word_or_name : Option Word → TokenKind
word_or_name None = kind.Name
word_or_name (Some w) = kind.Word w

-- a reserved word or a name
unfoldable pub lex_word : List ℕ → LexResult
lex_word bs =
    if nat_lt longest_word (word_length bs) then lex_result.Wrong
    else lex_result.Lexeme (word_or_name (reserved_word (take (word_length bs) bs))) (word_length bs)

-- the number that a digit more makes, where it is a digit and the number is not too great
unfoldable pub next_integer : ℕ → ℕ → Option ℕ
next_integer n c =
    if is_digit c then (if nat_lt greatest_integer (n * 10 + (c - 48)) then None else Some (n * 10 + (c - 48)))
    else None

-- the number that the digits write, when n was written before them
unfoldable pub integer : ℕ → List ℕ → Option ℕ
integer n [] = Some n
integer n (c ∷ cs) = elim (next_integer n c) [ None ↦ None | Some v ↦ integer v cs ]

abbrev pub int_or_wrong : ℕ → Option ℕ → LexResult
int_or_wrong n None = lex_result.Wrong
int_or_wrong n (Some v) = lex_result.Lexeme (kind.Int v) n

unfoldable pub lex_integer : List ℕ → LexResult
lex_integer bs = int_or_wrong (word_length bs) (integer 0 (take (word_length bs) bs))

abbrev pub name_or_wrong : ℕ → Option Word → LexResult
name_or_wrong n None = lex_result.Lexeme kind.Parameter (n + 1)
name_or_wrong n (Some w) = lex_result.Wrong

-- a parameter: what is after @
unfoldable pub lex_parameter : List ℕ → LexResult
lex_parameter bs =
    if not (begins is_letter bs) || nat_lt longest_word (word_length bs) then lex_result.Wrong
    else name_or_wrong (word_length bs) (reserved_word (take (word_length bs) bs))

abbrev pub literal_or_wrong : TokenKind → ℕ → Option ℕ → LexResult
literal_or_wrong k before None = lex_result.Wrong
literal_or_wrong k before (Some n) = lex_result.Lexeme k (before + n)

-- the longest sign that begins with a byte and goes on in the rest
unfoldable pub lex_sign : ℕ → List ℕ → LexResult
lex_sign b bs =
    if b == 40 then lex_result.Lexeme (kind.Sign sign.Open) 1
    else (if b == 41 then lex_result.Lexeme (kind.Sign sign.Close) 1
    else (if b == 44 then lex_result.Lexeme (kind.Sign sign.Comma) 1
    else (if b == 46 then lex_result.Lexeme (kind.Sign sign.Dot) 1
    else (if b == 59 then lex_result.Lexeme (kind.Sign sign.Semicolon) 1
    else (if b == 42 then lex_result.Lexeme (kind.Sign sign.Star) 1
    else (if b == 43 then lex_result.Lexeme (kind.Sign sign.Plus) 1
    else (if b == 45 then lex_result.Lexeme (kind.Sign sign.Minus) 1
    else (if b == 61 then lex_result.Lexeme (kind.Sign sign.Equal) 1
    else (if b == 60 then (if begins (λ c. c == 61) bs then lex_result.Lexeme (kind.Sign sign.LessEqual) 2
    else (if begins (λ c. c == 62) bs then lex_result.Lexeme (kind.Sign sign.LessGreater) 2
    else lex_result.Lexeme (kind.Sign sign.Less) 1))
    else (if b == 62 then (if begins (λ c. c == 61) bs then lex_result.Lexeme (kind.Sign sign.GreaterEqual) 2
    else lex_result.Lexeme (kind.Sign sign.Greater) 1)
    else (if b == 33 then (if begins (λ c. c == 61) bs then lex_result.Lexeme (kind.Sign sign.BangEqual) 2
    else lex_result.Wrong)
    else (if b == 124 then (if begins (λ c. c == 124) bs then lex_result.Lexeme (kind.Sign sign.Concat) 2
    else lex_result.Wrong)
    else lex_result.Wrong))))))))))))

-- not LF
unfoldable pub is_on_line : ℕ → Bool
is_on_line c = not (c == 10)

unfoldable pub lex_bytes : List ℕ → LexResult
lex_bytes [] = lex_result.Wrong
lex_bytes (q ∷ bs) = literal_or_wrong kind.Bytes 2 (closing_quote literal.Bytes q 0 bs)

-- what a text begins with
unfoldable pub lex_first : List ℕ → LexResult
lex_first [] = lex_result.Wrong
lex_first (b ∷ bs) =
    if is_blank b then lex_result.Skip 1
    else (if is_mark b && begins is_quote bs then lex_bytes bs
    else (if is_letter b then lex_word (b ∷ bs)
    else (if is_digit b then lex_integer (b ∷ bs)
    else (if b == 64 then lex_parameter bs
    else (if is_quote b then literal_or_wrong kind.Str 1 (closing_quote literal.Text b 0 bs)
    else (if b == 45 && begins (λ c. c == 45) bs then lex_result.Skip (1 + prefix_len is_on_line bs)
    else lex_sign b bs))))))

-- it is not empty, and no longer than a number of bytes
abbrev pub Reaches : ℕ → LexResult → Type 0
Reaches most (lex_result.Skip n) = (0 < n) × (n ≤ most)
Reaches most (lex_result.Lexeme k n) = (0 < n) × (n ≤ most)
Reaches most lex_result.Wrong = Unit {0}

abbrev pub with_token : Token → Option (List Token) → Option (List Token)
with_token t o = option_map (λ ts. t ∷ ts) o

-- The tokens of a text that begins at a place. The first `skip` bytes belong to the item before.
unfoldable pub lex_from : ℕ → ℕ → List ℕ → Option (List Token)
lex_from skip at [] = Some []
lex_from (suc skip) at (b ∷ bs) = lex_from skip (at + 1) bs
lex_from zero at (b ∷ bs) = elim (lex_first (b ∷ bs)) [
  | lex_result.Skip n ↦ lex_from (n - 1) (at + 1) bs
  | lex_result.Lexeme k n ↦ with_token (record { kind = k; start = at; end = at + n }) (lex_from (n - 1) (at + 1) bs)
  | lex_result.Wrong ↦ None
]
