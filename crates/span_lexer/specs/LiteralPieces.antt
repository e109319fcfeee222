-- The inside of a literal as pieces, each a plain character or an escape.
use Rattle.std.specs.Prelude.{◌≡◌, ◌≢◌, ℕ, ◌+◌, ◌*◌, true, List, [], ◌∷◌, ◌++◌, map}
use Rattle.std.specs.List.{AllByRecursion, flat_map}
use Rattle.std.specs.Str.{all_scalars, encode_utf8_all}
use Rattle.span_lexer.specs.LiteralValues.{digit, character, letter_escape, as_bytes, text_of, bytes_of}

pub data Piece : Type 0 where
  Plain : (c : ℕ) → Piece
  Escaped : (c : ℕ) → Piece
  Hex : (h l : ℕ) → Piece
  Unicode : (a b c d : ℕ) → Piece

-- a plain character is no backslash, and the letters x and u come with digits
abbrev pub IsPiece : Piece → Type 0
IsPiece (Plain c) = c ≢ 92
IsPiece (Escaped c) = (c ≢ 120) × (c ≢ 117)
IsPiece (Hex h l) = Unit {0}
IsPiece (Unicode a b c d) = Unit {0}

abbrev pub spelling : Piece → List ℕ
spelling (Plain c) = c ∷ []
spelling (Escaped c) = 92 ∷ c ∷ []
spelling (Hex h l) = 92 ∷ 120 ∷ h ∷ l ∷ []
spelling (Unicode a b c d) = 92 ∷ 117 ∷ a ∷ b ∷ c ∷ d ∷ []

abbrev pub piece_char : Piece → ℕ
piece_char (Plain c) = c
piece_char (Escaped c) = letter_escape c
piece_char (Hex h l) = character (digit h * 16 + digit l)
piece_char (Unicode a b c d) = character (((digit a * 16 + digit b) * 16 + digit c) * 16 + digit d)

-- the spelling of these pieces between two quotes
abbrev pub quoted : ℕ → List Piece → List ℕ
quoted q pieces = q ∷ (flat_map spelling pieces ++ q ∷ [])

-- the value of a string is the values of its pieces, in order
abbrev pub TextByPieces : Type 0
TextByPieces =
    (q : ℕ) (pieces : List Piece) → AllByRecursion IsPiece pieces → all_scalars (quoted q pieces) ≡ true
    → text_of (encode_utf8_all (quoted q pieces)) ≡ encode_utf8_all (map piece_char pieces)

-- so is that of bytes, after their mark
abbrev pub BytesByPieces : Type 0
BytesByPieces =
    (b q : ℕ) (pieces : List Piece) → AllByRecursion IsPiece pieces → all_scalars (b ∷ quoted q pieces) ≡ true
    → bytes_of (encode_utf8_all (b ∷ quoted q pieces)) ≡ as_bytes (map piece_char pieces)
