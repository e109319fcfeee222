-- No token cuts a character: each ends with an ASCII byte.
use Rattle.std.proofs.Common.{◌≡◌, ◌⊎◌, inl, inr, ℕ, ◌+◌, ◌-◌, ◌<◌, ◌≤◌, Bool, true, false, List, [], ◌∷◌, ◌++◌, length, drop, take, get_or, refl, sym, ap, subst, ◌∙◌, append_assoc, arith}
use Rattle.std.specs.List.{AllByRecursion}
use Rattle.std.specs.Str.{IsUtf8, IsCharBoundary}
use Rattle.std.proofs.lemmas.Str.{IsUtf8-take, IsUtf8-drop, IsCharBoundary-end, IsCharBoundary-before_ascii, IsCharBoundary-after_ascii, utf8_lossy-IsUtf8}
use Rattle.std.proofs.lemmas.Grind.{common_steps}
use Rattle.std.proofs.Math.Seq.{take-append_seam, drop-append_seam}
use Rattle.span_lexer.specs.declared.token.TokenKind.{TokenKind}
use Rattle.span_lexer.specs.declared.token.TokenKind.TheVariants as kind
use Rattle.span_lexer.specs.declared.token.Token.{Token}
use Rattle.span_lexer.specs.declared.token.Sign.{Sign}
use Rattle.span_lexer.specs.declared.token.Sign.TheVariants as sgn
use Rattle.span_lexer.specs.Characters.{is_blank, is_letter, is_digit, is_word, is_quote, begins}
use Rattle.span_lexer.specs.Spellings.{sign}
use Rattle.span_lexer.specs.Lexing.{is_on_line}
use Rattle.span_lexer.specs.Tokens.{Each, Stops, IsName, IsInteger, IsToken, Item, Blank, Comment, Lexeme, item_bytes, IsItem, AreItems, text_of, tokens_of, pieces_bytes}
use Rattle.span_lexer.specs.TokenTexts.{part_of, IsReadUnchanged, PartsAreReadUnchanged, TokensAreReadUnchanged}

unchanged : (bytes : List ℕ) → IsUtf8 bytes → IsReadUnchanged bytes
unchanged bytes is = (is, utf8_lossy-IsUtf8 bytes is)

-- ---- parts

boundary_after : (text : List ℕ) (start end : ℕ) → start ≤ end → IsCharBoundary text end → IsCharBoundary (drop start text) (end - start)
boundary_after text start end l b =
    let same : (end - start < length (drop start text)) → get_or (drop start text) (end - start) 0 ≡ get_or text end 0 = λ h. grind (arith, common_steps) in
    let below : end - start ≤ length (drop start text) = grind (arith, common_steps, b.0) in
    (below, λ h high. subst (λ (c : ℕ). 192 ≤ c) (sym (same h)) (b.1 (grind (arith, common_steps)) (subst (λ (c : ℕ). 128 ≤ c) (same h) high)))

pub parts_are_read_unchanged : PartsAreReadUnchanged
parts_are_read_unchanged text start end is first last l =
    unchanged (part_of text start end) (IsUtf8-take (drop start text) (end - start) (IsUtf8-drop text start is first) (boundary_after text start end l last))

-- ---- what ends with an ASCII byte

data EndsLow (bytes : List ℕ) : Type 0 where
  Last : (front : List ℕ) (b : ℕ) → bytes ≡ front ++ (b ∷ []) → b < 128 → EndsLow bytes

one : (b : ℕ) → b < 128 → EndsLow (b ∷ [])
one b l = Last [] b refl l

more : (b : ℕ) (bytes : List ℕ) → EndsLow bytes → EndsLow (b ∷ bytes)
more b bytes (Last front c e l) = Last (b ∷ front) c (ap (λ (w : List ℕ). b ∷ w) e) l

-- a character ends there
last_place : (front rest : List ℕ) (b : ℕ) → get_or ((front ++ (b ∷ [])) ++ rest) (length front) 0 ≡ b
last_place [] rest b = refl
last_place (c ∷ front) rest b = last_place front rest b

last_length : (front : List ℕ) (b : ℕ) → length (front ++ (b ∷ [])) ≡ length front + 1
last_length front b = grind (arith, common_steps)

at_low : (front rest : List ℕ) (b : ℕ) → b < 128 → IsUtf8 ((front ++ (b ∷ [])) ++ rest) → IsCharBoundary ((front ++ (b ∷ [])) ++ rest) (length (front ++ (b ∷ [])))
at_low front rest b l is =
    let text : List ℕ = (front ++ (b ∷ [])) ++ rest in
    subst (IsCharBoundary text) (sym (last_length front b))
    (IsCharBoundary-after_ascii text (length front) is (grind (arith, common_steps)) (subst (λ (c : ℕ). c < 128) (sym (last_place front rest b)) l))

at_end : (bytes rest : List ℕ) → EndsLow bytes → IsUtf8 (bytes ++ rest) → IsCharBoundary (bytes ++ rest) (length bytes)
at_end bytes rest (Last front b e l) = subst (λ (w : List ℕ). IsUtf8 (w ++ rest) → IsCharBoundary (w ++ rest) (length w)) (sym e) (at_low front rest b l)

-- ---- the bytes of items

blank_low : (c : ℕ) → is_blank c ≡ true → c < 128
unfolding is_blank
blank_low c e = grind arith

quote_low : (c : ℕ) → is_quote c ≡ true → c < 128
unfolding is_quote
quote_low c e = grind arith

digit_low : (c : ℕ) → is_digit c ≡ true → c < 128
unfolding is_digit
digit_low c e = grind arith

word_low : (c : ℕ) → is_word c ≡ true → c < 128
unfolding is_word is_letter is_digit
word_low c e = grind arith

each_low : (p : ℕ → Bool) → ((c : ℕ) → p c ≡ true → c < 128) → (b : ℕ) (bytes : List ℕ) → Each p (b ∷ bytes) → EndsLow (b ∷ bytes)
each_low p low b [] h = one b (low b h.0)
each_low p low b (c ∷ bytes) h = more b (c ∷ bytes) (each_low p low c bytes h.1)

name_low : (bytes rest : List ℕ) → IsName bytes rest → EndsLow bytes
name_low [] rest h = absurd (let e : begins is_letter [] ≡ true = h.first in cc)
name_low (b ∷ bytes) rest h = each_low is_word word_low b bytes h.only

integer_low : (bytes rest : List ℕ) (v : ℕ) → IsInteger bytes v rest → EndsLow bytes
integer_low [] rest v h = absurd (omega (arith, h.some))
integer_low (b ∷ bytes) rest v h = each_low is_digit digit_low b bytes h.only

sign_low : (s : Sign) → EndsLow (sign s)
sign_low sgn.Open = one 40 (omega arith)
sign_low sgn.Close = one 41 (omega arith)
sign_low sgn.Comma = one 44 (omega arith)
sign_low sgn.Dot = one 46 (omega arith)
sign_low sgn.Semicolon = one 59 (omega arith)
sign_low sgn.Star = one 42 (omega arith)
sign_low sgn.Plus = one 43 (omega arith)
sign_low sgn.Minus = one 45 (omega arith)
sign_low sgn.Equal = one 61 (omega arith)
sign_low sgn.LessGreater = more 60 (62 ∷ []) (one 62 (omega arith))
sign_low sgn.BangEqual = more 33 (61 ∷ []) (one 61 (omega arith))
sign_low sgn.Less = one 60 (omega arith)
sign_low sgn.LessEqual = more 60 (61 ∷ []) (one 61 (omega arith))
sign_low sgn.Greater = one 62 (omega arith)
sign_low sgn.GreaterEqual = more 62 (61 ∷ []) (one 61 (omega arith))
sign_low sgn.Concat = more 124 (124 ∷ []) (one 124 (omega arith))

-- after its closing quote
body_low : (q : ℕ) (pieces : List ℕ) (body : List ℕ) → is_quote q ≡ true → body ≡ pieces ++ (q ∷ []) → EndsLow body
body_low q pieces body e same = Last pieces q same (quote_low q e)

same_low : (bytes others : List ℕ) → bytes ≡ others → EndsLow others → EndsLow bytes
same_low bytes others e h = subst EndsLow (sym e) h

token_low : (k : TokenKind) (bytes rest : List ℕ) → IsToken k bytes rest → EndsLow bytes
token_low (kind.Word w) bytes rest h = name_low bytes rest h.0
token_low kind.Name bytes rest h = name_low bytes rest h.0
token_low kind.Parameter bytes rest (w, e, is, not_reserved) = same_low bytes (64 ∷ w) e (more 64 w (name_low w rest is))
token_low (kind.Int v) bytes rest h = integer_low bytes rest v h
token_low kind.Str bytes rest (q, body, is, e, closed) = same_low bytes (q ∷ body) e (more q body (body_low q (pieces_bytes closed.pieces) body is closed.spells))
token_low kind.Bytes bytes rest (m, q, body, marked, is, e, closed) = same_low bytes (m ∷ q ∷ body) e (more m (q ∷ body) (more q body (body_low q (pieces_bytes closed.pieces) body is closed.spells)))
token_low (kind.Sign s) bytes rest h = same_low bytes (sign s) h.0 (sign_low s)

-- a comment ends before an LF, or with the text
is_line_feed : (c : ℕ) → is_on_line c ≡ false → c ≡ 10
unfolding is_on_line
is_line_feed c e = grind arith

line_ends : (rest : List ℕ) → Stops is_on_line rest → (rest ≡ []) ⊎ ((after : List ℕ) × (rest ≡ 10 ∷ after))
line_ends [] h = inl refl
line_ends (b ∷ rest) h = inr (rest, ap (λ (c : ℕ). c ∷ rest) (is_line_feed b h))

seam_end : (bytes : List ℕ) → IsCharBoundary (bytes ++ []) (length bytes)
seam_end bytes = subst (IsCharBoundary (bytes ++ [])) (let e : length (bytes ++ []) ≡ length bytes = grind (arith, common_steps) in e) (IsCharBoundary-end (bytes ++ []))

seam_low : (bytes more : List ℕ) (c : ℕ) → c < 128 → IsCharBoundary (bytes ++ (c ∷ more)) (length bytes)
seam_low bytes more c l = IsCharBoundary-before_ascii (bytes ++ (c ∷ more)) (length bytes) (grind (arith, common_steps)) (subst (λ (x : ℕ). x < 128) (sym (at_seam bytes)) l) where
  at_seam : (front : List ℕ) → get_or (front ++ (c ∷ more)) (length front) 0 ≡ c
  at_seam [] = refl
  at_seam (b ∷ front) = at_seam front

item_ends : (i : Item) (rest : List ℕ) → IsItem i rest → IsUtf8 (item_bytes i ++ rest) → IsCharBoundary (item_bytes i ++ rest) (length (item_bytes i))
item_ends (Blank b) rest h is = at_end (b ∷ []) rest (one b (blank_low b h)) is
item_ends (Comment bytes) rest h is = elim (line_ends rest h.1) [
  | inl e ↦ subst (λ (w : List ℕ). IsCharBoundary ((45 ∷ 45 ∷ bytes) ++ w) (length (45 ∷ 45 ∷ bytes))) (sym e) (seam_end (45 ∷ 45 ∷ bytes))
  | inr e ↦ subst (λ (w : List ℕ). IsCharBoundary ((45 ∷ 45 ∷ bytes) ++ w) (length (45 ∷ 45 ∷ bytes))) (sym e.1) (seam_low (45 ∷ 45 ∷ bytes) e.0 10 (omega arith))
]
item_ends (Lexeme k bytes) rest h is = at_end bytes rest (token_low k bytes rest h) is

-- ---- the tokens of a text, item by item

item_is : (i : Item) (rest : List ℕ) → IsItem i rest → IsUtf8 (item_bytes i ++ rest) → IsUtf8 (item_bytes i)
item_is i rest h is = subst IsUtf8 (take-append_seam (item_bytes i) rest) (IsUtf8-take (item_bytes i ++ rest) (length (item_bytes i)) is (item_ends i rest h is))

rest_is : (i : Item) (rest : List ℕ) → IsItem i rest → IsUtf8 (item_bytes i ++ rest) → IsUtf8 rest
rest_is i rest h is = subst IsUtf8 (drop-append_seam (item_bytes i) rest) (IsUtf8-drop (item_bytes i ++ rest) (length (item_bytes i)) is (item_ends i rest h is))

-- what is at a place of a text
part_is : (text front bytes rest : List ℕ) (at : ℕ) → text ≡ front ++ (bytes ++ rest) → length front ≡ at → part_of text at (at + length bytes) ≡ bytes
part_is text front bytes rest at e l =
    ap (λ (w : List ℕ). part_of w at (at + length bytes)) e
    ∙ ap (λ (n : ℕ). part_of (front ++ (bytes ++ rest)) n (n + length bytes)) (sym l)
    ∙ ap (take (length front + length bytes - length front)) (drop-append_seam front (bytes ++ rest))
    ∙ ap (λ (n : ℕ). take n (bytes ++ rest)) {x = length front + length bytes - length front} {y = length bytes} (omega arith)
    ∙ take-append_seam bytes rest

-- the front grows by an item
moved : (text front bytes rest : List ℕ) → text ≡ front ++ (bytes ++ rest) → text ≡ (front ++ bytes) ++ rest
moved text front bytes rest e = e ∙ sym (append_assoc front bytes rest)

longer : (front bytes : List ℕ) (at n : ℕ) → length front ≡ at → length bytes ≡ n → length (front ++ bytes) ≡ at + n
longer front bytes at n l m = grind (arith, common_steps)

tokens_after : (text front : List ℕ) (at : ℕ) (is : List Item) → text ≡ front ++ text_of is → length front ≡ at → AreItems is → IsUtf8 (text_of is) → AllByRecursion (λ (t : Token). IsReadUnchanged (part_of text t.start t.end)) (tokens_of at is)
tokens_after text front at [] e l are good = tt
tokens_after text front at (Blank b ∷ is) e l are good =
    tokens_after text (front ++ (b ∷ [])) (at + 1) is (moved text front (b ∷ []) (text_of is) e) (longer front (b ∷ []) at 1 l refl) are.1 (rest_is (Blank b) (text_of is) are.0 good)
tokens_after text front at (Comment bytes ∷ is) e l are good =
    tokens_after text (front ++ (45 ∷ 45 ∷ bytes)) (at + (length bytes + 2)) is (moved text front (45 ∷ 45 ∷ bytes) (text_of is) e) (longer front (45 ∷ 45 ∷ bytes) at (length bytes + 2) l (omega arith)) are.1 (rest_is (Comment bytes) (text_of is) are.0 good)
tokens_after text front at (Lexeme k bytes ∷ is) e l are good = (
  subst IsReadUnchanged (sym (part_is text front bytes (text_of is) at e l)) (unchanged bytes (item_is (Lexeme k bytes) (text_of is) are.0 good)),
  tokens_after text (front ++ bytes) (at + length bytes) is (moved text front bytes (text_of is) e) (longer front bytes at (length bytes) l refl) are.1 (rest_is (Lexeme k bytes) (text_of is) are.0 good),
)

pub tokens_are_read_unchanged : TokensAreReadUnchanged
tokens_are_read_unchanged is are good = tokens_after (text_of is) [] 0 is refl refl are good
