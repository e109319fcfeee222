-- The tokens of a whole text, item by item.
use Rattle.std.proofs.Common.{◌≡◌, ℕ, zero, suc, ◌+◌, ◌-◌, ◌<◌, ◌≤◌, List, [], ◌∷◌, ◌++◌, length, drop, get_or, Option, Some, None, refl, sym, ap, ◌∙◌, append_assoc, arith}
use Rattle.std.specs.Option.{option_map}
use Rattle.std.proofs.lemmas.Grind.{common_steps}
use Rattle.std.proofs.lemmas.List.{append-nil, drop-drop, drop_more}
use Rattle.span_lexer.specs.declared.token.TokenKind.{TokenKind}
use Rattle.span_lexer.specs.declared.token.Token.{Token}
use Rattle.span_lexer.specs.declared.lexer.LexResult.{LexResult}
use Rattle.span_lexer.specs.declared.lexer.LexResult.TheVariants as lex_result
use Rattle.span_lexer.specs.Lexing.{lex_first, lex_from, with_token}

abbrev going : ℕ → List ℕ → LexResult → Option (List Token)
going at bs f = elim f [
  | lex_result.Skip n ↦ lex_from (n - 1) (at + 1) bs
  | lex_result.Lexeme k n ↦ with_token (record { kind = k; start = at; end = at + n }) (lex_from (n - 1) (at + 1) bs)
  | lex_result.Wrong ↦ None
]

pub lexed_nil : (skip at : ℕ) → lex_from skip at [] ≡ Some []
unfolding lex_from
lexed_nil skip at = refl

lexed_in : (skip at b : ℕ) (bs : List ℕ) → lex_from (suc skip) at (b ∷ bs) ≡ lex_from skip (at + 1) bs
unfolding lex_from
lexed_in skip at b bs = refl

lexed_at : (at b : ℕ) (bs : List ℕ) → lex_from 0 at (b ∷ bs) ≡ going at bs (lex_first (b ∷ bs))
unfolding lex_from
lexed_at at b bs = refl

-- the bytes of the item before are skipped
pub skipped : (k at : ℕ) (bs : List ℕ) → lex_from k at bs ≡ lex_from 0 (at + k) (drop k bs)
skipped zero at bs = ap (λ (n : ℕ). lex_from 0 n bs) (omega arith)
skipped (suc k) at [] = lexed_nil (suc k) at ∙ sym (lexed_nil 0 (at + suc k))
skipped (suc k) at (b ∷ bs) = lexed_in k at b bs ∙ skipped k (at + 1) bs ∙ ap (λ (n : ℕ). lex_from 0 n (drop k bs)) (omega arith)

less_one : (n : ℕ) → suc n - 1 ≡ n
less_one n = omega arith

pub gap_then : (at b n : ℕ) (bs : List ℕ) → lex_first (b ∷ bs) ≡ lex_result.Skip n → 0 < n → lex_from 0 at (b ∷ bs) ≡ lex_from 0 (at + n) (drop n (b ∷ bs))
gap_then at b zero bs e pos = absurd (omega arith)
gap_then at b (suc n) bs e pos =
    lexed_at at b bs ∙ ap (going at bs) e ∙ ap (λ (k : ℕ). lex_from k (at + 1) bs) (less_one n) ∙ skipped n (at + 1) bs ∙ ap (λ (k : ℕ). lex_from 0 k (drop n bs)) (omega arith)

pub lexeme_then : (at b n : ℕ) (k : TokenKind) (bs : List ℕ) → lex_first (b ∷ bs) ≡ lex_result.Lexeme k n → 0 < n
    → lex_from 0 at (b ∷ bs) ≡ with_token (record { kind = k; start = at; end = at + n }) (lex_from 0 (at + n) (drop n (b ∷ bs)))
lexeme_then at b zero k bs e pos = absurd (omega arith)
lexeme_then at b (suc n) k bs e pos =
    lexed_at at b bs ∙ ap (going at bs) e
    ∙ ap (with_token (record { kind = k; start = at; end = at + suc n })) (ap (λ (j : ℕ). lex_from j (at + 1) bs) (less_one n) ∙ skipped n (at + 1) bs ∙ ap (λ (j : ℕ). lex_from 0 j (drop n bs)) (omega arith))

pub wrong_then : (at b : ℕ) (bs : List ℕ) → lex_first (b ∷ bs) ≡ lex_result.Wrong → lex_from 0 at (b ∷ bs) ≡ None
wrong_then at b bs e = lexed_at at b bs ∙ ap (going at bs) e

-- ---- for the loop

abbrev pub put : List Token → Option (List Token) → Option (List Token)
put out o = option_map (λ ts. out ++ ts) o

abbrev pub IsLexedFrom : List ℕ → List Token → ℕ → Type 0
IsLexedFrom bytes out at = put out (lex_from 0 at (drop at bytes)) ≡ lex_from 0 0 bytes

put_nil : (o : Option (List Token)) → put [] o ≡ o
put_nil None = refl
put_nil (Some w) = refl

put_token : (out : List Token) (t : Token) (o : Option (List Token)) → put out (with_token t o) ≡ put (out ++ (t ∷ [])) o
put_token out t None = refl
put_token out t (Some w) = ap Some (sym (append_assoc out (t ∷ []) w))

pub lexing_begins : (bytes : List ℕ) → IsLexedFrom bytes [] 0
lexing_begins bytes = put_nil (lex_from 0 0 bytes)

pub gap_steps : (bytes : List ℕ) (out : List Token) (at n : ℕ) → IsLexedFrom bytes out at → at < length bytes → lex_first (drop at bytes) ≡ lex_result.Skip n → 0 < n → IsLexedFrom bytes out (at + n)
gap_steps bytes out at n h l e pos =
    let f = drop_more bytes at 0 l in
    sym (ap (put out) (ap (lex_from 0 at) f ∙ gap_then at (get_or bytes at 0) n (drop (at + 1) bytes) (ap lex_first (sym f) ∙ e) pos ∙ ap (λ (w : List ℕ). lex_from 0 (at + n) (drop n w)) (sym f) ∙ ap (lex_from 0 (at + n)) (drop-drop n at bytes))) ∙ h

pub lexeme_steps : (bytes : List ℕ) (out : List Token) (at n : ℕ) (k : TokenKind) → IsLexedFrom bytes out at → at < length bytes → lex_first (drop at bytes) ≡ lex_result.Lexeme k n → 0 < n
    → IsLexedFrom bytes (out ++ (record { kind = k; start = at; end = at + n } ∷ [])) (at + n)
lexeme_steps bytes out at n k h l e pos =
    let f = drop_more bytes at 0 l in
    sym (put_token out (record { kind = k; start = at; end = at + n }) (lex_from 0 (at + n) (drop (at + n) bytes)))
    ∙ sym (ap (put out) (ap (lex_from 0 at) f ∙ lexeme_then at (get_or bytes at 0) n k (drop (at + 1) bytes) (ap lex_first (sym f) ∙ e) pos
    ∙ ap (with_token (record { kind = k; start = at; end = at + n })) (ap (λ (w : List ℕ). lex_from 0 (at + n) (drop n w)) (sym f) ∙ ap (lex_from 0 (at + n)) (drop-drop n at bytes)))) ∙ h

pub lexing_fails : (bytes : List ℕ) (out : List Token) (at : ℕ) → IsLexedFrom bytes out at → at < length bytes → lex_first (drop at bytes) ≡ lex_result.Wrong → lex_from 0 0 bytes ≡ None
lexing_fails bytes out at h l e =
    let f = drop_more bytes at 0 l in
    sym h ∙ ap (put out) (ap (lex_from 0 at) f ∙ wrong_then at (get_or bytes at 0) (drop (at + 1) bytes) (ap lex_first (sym f) ∙ e))

pub lexing_over : (bytes : List ℕ) (out : List Token) (at : ℕ) → IsLexedFrom bytes out at → length bytes ≤ at → lex_from 0 0 bytes ≡ Some out
lexing_over bytes out at h l = sym h ∙ ap (put out) (ap (lex_from 0 at) (let e : drop at bytes ≡ [] = grind (arith, common_steps) in e) ∙ lexed_nil 0 at) ∙ ap Some (append-nil out)

pub ruleset lexed_rules = (lexing_begins, gap_steps, lexeme_steps, lexing_fails, lexing_over)
