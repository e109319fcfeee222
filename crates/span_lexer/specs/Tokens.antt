-- What a text consists of, independent of how it is read: a sequence of items, and the tokens among them.
use Rattle.std.specs.Prelude.{◌≡◌, ℕ, ◌+◌, ◌*◌, ◌-◌, ◌<◌, ◌≤◌, ◌==◌, nat_lt, Bool, true, false, not, ◌||◌, ◌&&◌, List, [], ◌∷◌, ◌++◌, length, Some, None}
use Rattle.span_lexer.specs.declared.token.TokenKind.{TokenKind}
use Rattle.span_lexer.specs.declared.token.TokenKind.TheVariants as kind
use Rattle.span_lexer.specs.declared.token.Token.{Token}
use Rattle.span_lexer.specs.declared.literal.Literal.{Literal}
use Rattle.span_lexer.specs.declared.literal.Literal.TheVariants as literal
use Rattle.span_lexer.specs.Characters.{is_blank, is_letter, is_digit, is_word, is_hex, is_quote, is_mark, is_escape, is_octal, begins}
use Rattle.span_lexer.specs.Spellings.{reserved_word, sign}
use Rattle.span_lexer.specs.Literals.{is_bytes, is_d}
use Rattle.span_lexer.specs.Lexing.{is_on_line, greatest_integer, longest_word}

-- each byte passes the test; the bytes do not go on with one that passes
abbrev pub Each : (ℕ → Bool) → List ℕ → Type 0
Each p [] = Unit {0}
Each p (b ∷ bs) = (p b ≡ true) × Each p bs

abbrev pub Stops : (ℕ → Bool) → List ℕ → Type 0
Stops p rest = begins p rest ≡ false

-- ---- literals

-- A literal between its quotes is made of these.
pub data Piece : Type 0 where
  Plain : ℕ → Piece
  -- a backslash and a letter
  Escaped : (letter : ℕ) → Piece
  -- \x and two digits
  Hex : (high low : ℕ) → Piece
  -- \u and four digits
  Unicode : (a b c d : ℕ) → Piece

abbrev pub piece_bytes : Piece → List ℕ
piece_bytes (Plain b) = b ∷ []
piece_bytes (Escaped e) = 92 ∷ e ∷ []
piece_bytes (Hex h l) = 92 ∷ 120 ∷ h ∷ l ∷ []
piece_bytes (Unicode a b c d) = 92 ∷ 117 ∷ a ∷ b ∷ c ∷ d ∷ []

-- A plain byte is neither the quote nor a backslash nor LF, and in bytes it is ASCII. \x is any byte in bytes and 00 to
-- 7f in a string; \u is allowed in strings only, and is no surrogate.
abbrev pub IsPiece : Literal → ℕ → Piece → Type 0
IsPiece t q (Plain b) = ((b == q) ≡ false) × ((b == 92) ≡ false) × ((b == 10 || (is_bytes t && nat_lt 127 b)) ≡ false)
IsPiece t q (Escaped e) = is_escape e ≡ true
IsPiece t q (Hex h l) = ((is_hex h && is_hex l) && (is_bytes t || is_octal h)) ≡ true
IsPiece t q (Unicode a b c d) =
    (is_bytes t ≡ false) × ((((is_hex a && is_hex b) && (is_hex c && is_hex d)) && not (is_d a && not (is_octal b)))
    ≡ true)

abbrev pub ArePieces : Literal → ℕ → List Piece → Type 0
ArePieces t q [] = Unit {0}
ArePieces t q (p ∷ ps) = IsPiece t q p × ArePieces t q ps

abbrev pub pieces_bytes : List Piece → List ℕ
pieces_bytes [] = []
pieces_bytes (p ∷ ps) = piece_bytes p ++ pieces_bytes ps

-- the bytes after a quote, up to the closing one
pub record IsBody (t : Literal) (q : ℕ) (bytes : List ℕ) : Type 0 where
  pub pieces : List Piece
  pub fits : ArePieces t q pieces
  pub spells : bytes ≡ pieces_bytes pieces ++ (q ∷ [])

-- ---- words and numbers

-- a letter or _, then letters, digits and _, at most 128, and no more of them
pub record IsName (bytes rest : List ℕ) : Type 0 where
  pub first : begins is_letter bytes ≡ true
  pub only : Each is_word bytes
  pub short : length bytes ≤ longest_word
  pub whole : Stops is_word rest

-- it is not the mark of a bytes literal
abbrev pub NoMark : List ℕ → List ℕ → Type 0
NoMark bytes rest = (m : ℕ) → bytes ≡ m ∷ [] → is_mark m ≡ true → begins is_quote rest ≡ true → ⊥

-- the number that decimal digits write, when n was written before them
abbrev pub number_after : ℕ → List ℕ → ℕ
number_after n [] = n
number_after n (c ∷ cs) = number_after (n * 10 + (c - 48)) cs

pub record IsInteger (bytes : List ℕ) (value : ℕ) (rest : List ℕ) : Type 0 where
  pub some : 0 < length bytes
  pub only : Each is_digit bytes
  pub says : number_after 0 bytes ≡ value
  pub small : value ≤ greatest_integer
  pub whole : Stops is_word rest

-- ---- signs

-- the signs of two bytes, and --, which begins a comment
unfoldable pub is_pair : ℕ → ℕ → Bool
is_pair a b =
    ((a == 60 && (b == 61 || b == 62)) || (a == 62 && b == 61))
    || ((a == 33 && b == 61) || ((a == 124 && b == 124) || (a == 45 && b == 45)))

-- a sign of one byte is not followed by a byte with which it is a sign of two bytes or begins a comment
abbrev pub NoPair : List ℕ → List ℕ → Type 0
NoPair bytes rest = (a b : ℕ) (more : List ℕ) → bytes ≡ a ∷ [] → rest ≡ b ∷ more → is_pair a b ≡ false

-- ---- tokens

-- the bytes are a token of the kind, followed by the rest
abbrev pub IsToken : TokenKind → List ℕ → List ℕ → Type 0
IsToken (kind.Word w) bytes rest = IsName bytes rest × NoMark bytes rest × (reserved_word bytes ≡ Some w)
IsToken kind.Name bytes rest = IsName bytes rest × NoMark bytes rest × (reserved_word bytes ≡ None)
IsToken kind.Parameter bytes rest = (w : List ℕ) × (bytes ≡ 64 ∷ w) × IsName w rest × (reserved_word w ≡ None)
IsToken (kind.Int v) bytes rest = IsInteger bytes v rest
IsToken kind.Str bytes rest =
    (q : ℕ) × (body : List ℕ) × (is_quote q ≡ true) × (bytes ≡ q ∷ body) × IsBody literal.Text q body
IsToken kind.Bytes bytes rest =
    (m : ℕ) × (q : ℕ) × (body : List ℕ) × (is_mark m ≡ true) × (is_quote q ≡ true) × (bytes ≡ m ∷ q ∷ body)
    × IsBody literal.Bytes q body
IsToken (kind.Sign s) bytes rest = (bytes ≡ sign s) × NoPair bytes rest

-- ---- texts

pub data Item : Type 0 where
  Blank : ℕ → Item
  -- the bytes after --
  Comment : List ℕ → Item
  Lexeme : TokenKind → List ℕ → Item

abbrev pub item_bytes : Item → List ℕ
item_bytes (Blank b) = b ∷ []
item_bytes (Comment bytes) = 45 ∷ 45 ∷ bytes
item_bytes (Lexeme k bytes) = bytes

abbrev pub text_of : List Item → List ℕ
text_of [] = []
text_of (i ∷ is) = item_bytes i ++ text_of is

abbrev pub IsItem : Item → List ℕ → Type 0
IsItem (Blank b) rest = is_blank b ≡ true
IsItem (Comment bytes) rest = Each is_on_line bytes × Stops is_on_line rest
IsItem (Lexeme k bytes) rest = IsToken k bytes rest

-- each is an item before what follows it
abbrev pub AreItems : List Item → Type 0
AreItems [] = Unit {0}
AreItems (i ∷ is) = IsItem i (text_of is) × AreItems is

-- the tokens with their places, where the items begin at a place
abbrev pub tokens_of : ℕ → List Item → List Token
tokens_of at [] = []
tokens_of at (Blank b ∷ is) = tokens_of (at + 1) is
tokens_of at (Comment bytes ∷ is) = tokens_of (at + (length bytes + 2)) is
tokens_of at (Lexeme k bytes ∷ is) =
    record { kind = k; start = at; end = at + length bytes } ∷ tokens_of (at + length bytes) is
