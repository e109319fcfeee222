-- The value of a literal, piece by piece.
use Rattle.std.proofs.Common.{◌≡◌, ◌≢◌, ◌∙◌, sym, refl, ap, ℕ, ◌==◌, Bool, List, [], ◌∷◌, ◌++◌, map, drop, Option, None, if◌then◌else◌}
use Rattle.std.specs.List.{AllByRecursion, flat_map}
use Rattle.std.specs.Str.{encode_utf8_all}
use Rattle.std.proofs.lemmas.Bool.{ne_eqb}
use Rattle.std.proofs.lemmas.Str.{chars-encodes}
use Rattle.span_lexer.specs.LiteralValues.{two_digits, four_digits, code_of, escape_or_letter, between_quotes, as_bytes, decode_all, letter_escape}
use Rattle.span_lexer.specs.LiteralPieces.{Piece, Plain, Escaped, Hex, Unicode, IsPiece, spelling, piece_char, quoted, TextByPieces, BytesByPieces}
use Rattle.span_lexer.proofs.Digits.{without_last}
use Rattle.span_lexer.proofs.Escapes.{more_by_escape, more_by_itself, no_more}

no_code : (c : ℕ) (cs : List ℕ) → c ≢ 120 → c ≢ 117 → code_of c cs ≡ None
no_code c cs no_x no_u =
    ap (λ (b : Bool). if b then two_digits cs else (if c == 117 then four_digits cs else None)) (ne_eqb c 120 no_x)
    ∙ ap (λ (b : Bool). if b then four_digits cs else None) (ne_eqb c 117 no_u)

piece_first : (p : Piece) (cs : List ℕ) → IsPiece p → decode_all (spelling p ++ cs) ≡ piece_char p ∷ decode_all cs
unfolding two_digits four_digits
piece_first (Plain c) cs is = more_by_itself (c ∷ cs) c cs refl is
piece_first (Escaped c) cs is = more_by_escape (92 ∷ c ∷ cs) 92 (c ∷ cs) (letter_escape c) cs refl refl (ap (λ (code : Option (ℕ × List ℕ)). escape_or_letter code c cs) (no_code c cs is.0 is.1))
piece_first (Hex h l) cs is = more_by_escape (92 ∷ 120 ∷ h ∷ l ∷ cs) 92 (120 ∷ h ∷ l ∷ cs) (piece_char (Hex h l)) cs refl refl refl
piece_first (Unicode a b c d) cs is = more_by_escape (92 ∷ 117 ∷ a ∷ b ∷ c ∷ d ∷ cs) 92 (117 ∷ a ∷ b ∷ c ∷ d ∷ cs) (piece_char (Unicode a b c d)) cs refl refl refl

each_piece : (ps : List Piece) → AllByRecursion IsPiece ps → decode_all (flat_map spelling ps) ≡ map piece_char ps
each_piece [] are = no_more [] refl
each_piece (p ∷ ps) are = piece_first p (flat_map spelling ps) are.0 ∙ ap (λ (xs : List ℕ). piece_char p ∷ xs) (each_piece ps are.1)

inside : (q : ℕ) (ps : List Piece) → between_quotes (quoted q ps) ≡ flat_map spelling ps
inside q ps = sym (without_last (flat_map spelling ps) q)

pub text_by_pieces : TextByPieces
text_by_pieces q ps are good =
    ap (λ (cs : List ℕ). encode_utf8_all (decode_all (between_quotes cs))) (chars-encodes (quoted q ps) good)
    ∙ ap (λ (cs : List ℕ). encode_utf8_all (decode_all cs)) (inside q ps)
    ∙ ap encode_utf8_all (each_piece ps are)

pub bytes_by_pieces : BytesByPieces
bytes_by_pieces b q ps are good =
    ap (λ (cs : List ℕ). as_bytes (decode_all (between_quotes (drop 1 cs)))) (chars-encodes (b ∷ quoted q ps) good)
    ∙ ap (λ (cs : List ℕ). as_bytes (decode_all cs)) (inside q ps)
    ∙ ap as_bytes (each_piece ps are)
