-- Each item is read, whatever follows it, and a text of items is read to its end.
use Rattle.std.proofs.Common.{◌≡◌, ◌⊎◌, inl, inr, ℕ, zero, suc, ◌+◌, ◌-◌, ◌*◌, ◌<◌, ◌≤◌, ◌==◌, nat_lt, Bool, true, false, not, ◌&&◌, ◌||◌, List, [], ◌∷◌, ◌++◌, length, drop, take, Option, Some, None, refl, sym, ap, subst, ◌∙◌, arith, eqb-true}
use Rattle.std.proofs.lemmas.Grind.{common_steps}
use Rattle.std.proofs.lemmas.List.{take-append-drop}
use Rattle.std.proofs.lemmas.Bool.{or_parts, le-ltb, cond-true, cond-false}
use Rattle.std.proofs.Math.Seq.{take-append_seam, drop-append_seam}
use Rattle.std.proofs.Math.Bool.{and-false}
use Rattle.span_lexer.specs.declared.token.TokenKind.{TokenKind}
use Rattle.span_lexer.specs.declared.token.TokenKind.TheVariants as kind
use Rattle.span_lexer.specs.declared.token.Token.{Token}
use Rattle.span_lexer.specs.declared.token.Sign.{Sign}
use Rattle.span_lexer.specs.declared.token.Sign.TheVariants as sgn
use Rattle.span_lexer.specs.declared.lexer.LexResult.{LexResult}
use Rattle.span_lexer.specs.declared.lexer.LexResult.TheVariants as lex_result
use Rattle.span_lexer.specs.declared.literal.Literal.TheVariants as literal
use Rattle.span_lexer.specs.Characters.{is_blank, is_letter, is_digit, is_word, is_quote, is_mark, begins}
use Rattle.span_lexer.specs.Spellings.{reserved_word, sign}
use Rattle.span_lexer.specs.Literals.{closing_quote}
use Rattle.span_lexer.specs.Lexing.{word_length, lex_word, word_or_name, integer, next_integer, lex_integer, int_or_wrong, lex_parameter, name_or_wrong, literal_or_wrong, lex_bytes, lex_sign, is_on_line, lex_first, greatest_integer, longest_word, lex_from, with_token}
use Rattle.span_lexer.specs.Tokens.{Each, Stops, IsName, NoMark, number_after, IsInteger, is_pair, NoPair, IsToken, Item, Blank, Comment, Lexeme, item_bytes, IsItem, AreItems, text_of, tokens_of}
use Rattle.span_lexer.proofs.Pieces.{body_closes}
use Rattle.span_lexer.proofs.Fronts.{run_whole, digit_is_word, Holds, IsGap, front_holds}
use Rattle.span_lexer.proofs.Whole.{gap_then, lexeme_then, wrong_then, lexed_nil}

-- ---- no byte is of two sorts

letter_not_blank : (c : ℕ) → is_letter c ≡ true → is_blank c ≡ false
unfolding is_letter is_blank
letter_not_blank c e = grind arith

digit_not_blank : (c : ℕ) → is_digit c ≡ true → is_blank c ≡ false
unfolding is_digit is_blank
digit_not_blank c e = grind arith

digit_not_letter : (c : ℕ) → is_digit c ≡ true → is_letter c ≡ false
unfolding is_digit is_letter
digit_not_letter c e = grind arith

digit_not_mark : (c : ℕ) → is_digit c ≡ true → is_mark c ≡ false
unfolding is_digit is_mark
digit_not_mark c e = grind arith

mark_not_blank : (c : ℕ) → is_mark c ≡ true → is_blank c ≡ false
unfolding is_mark is_blank
mark_not_blank c e = grind arith

word_not_quote : (c : ℕ) → is_word c ≡ true → is_quote c ≡ false
unfolding is_word is_letter is_digit is_quote
word_not_quote c e = grind arith

quote_is : (q : ℕ) → is_quote q ≡ true → (q ≡ 39) ⊎ (q ≡ 34)
unfolding is_quote
quote_is q e = elim (q == 39) as (λ v. (q == 39) ≡ v → (v || (q == 34)) ≡ true → (q ≡ 39) ⊎ (q ≡ 34)) [
  | true ↦ λ h i. inl (eqb-true q 39 h)
  | false ↦ λ h i. inr (eqb-true q 34 i)
] refl e

-- ---- what a text begins with, case by case

to_word : (b : ℕ) (bs : List ℕ) → is_letter b ≡ true → (is_mark b && begins is_quote bs) ≡ false → lex_first (b ∷ bs) ≡ lex_word (b ∷ bs)
unfolding lex_first
to_word b bs e m = cond-false (is_blank b) _ _ (letter_not_blank b e) ∙ cond-false (is_mark b && begins is_quote bs) _ _ m ∙ cond-true (is_letter b) _ _ e

to_integer : (b : ℕ) (bs : List ℕ) → is_digit b ≡ true → lex_first (b ∷ bs) ≡ lex_integer (b ∷ bs)
unfolding lex_first
to_integer b bs e =
    cond-false (is_blank b) _ _ (digit_not_blank b e) ∙ cond-false (is_mark b && begins is_quote bs) _ _ (ap (λ (v : Bool). v && begins is_quote bs) (digit_not_mark b e))
    ∙ cond-false (is_letter b) _ _ (digit_not_letter b e) ∙ cond-true (is_digit b) _ _ e

to_parameter : (bs : List ℕ) → lex_first (64 ∷ bs) ≡ lex_parameter bs
unfolding lex_first is_blank is_mark is_letter is_digit
to_parameter bs = refl

to_single : (bs : List ℕ) → lex_first (39 ∷ bs) ≡ literal_or_wrong kind.Str 1 (closing_quote literal.Text 39 0 bs)
unfolding lex_first is_blank is_mark is_letter is_digit is_quote
to_single bs = refl

to_double : (bs : List ℕ) → lex_first (34 ∷ bs) ≡ literal_or_wrong kind.Str 1 (closing_quote literal.Text 34 0 bs)
unfolding lex_first is_blank is_mark is_letter is_digit is_quote
to_double bs = refl

to_string : (q : ℕ) (bs : List ℕ) → is_quote q ≡ true → lex_first (q ∷ bs) ≡ literal_or_wrong kind.Str 1 (closing_quote literal.Text q 0 bs)
to_string q bs e =
    let P : ℕ → Type 0 = λ y. lex_first (y ∷ bs) ≡ literal_or_wrong kind.Str 1 (closing_quote literal.Text y 0 bs) in
    elim (quote_is q e) [ inl h ↦ subst P (sym h) (to_single bs) | inr h ↦ subst P (sym h) (to_double bs) ]

to_bytes : (m q : ℕ) (bs : List ℕ) → is_mark m ≡ true → is_quote q ≡ true → lex_first (m ∷ q ∷ bs) ≡ literal_or_wrong kind.Bytes 2 (closing_quote literal.Bytes q 0 bs)
unfolding lex_first lex_bytes
to_bytes m q bs e f = cond-false (is_blank m) _ _ (mark_not_blank m e) ∙ cond-true (is_mark m && is_quote q) _ _ (ap (λ (v : Bool). v && is_quote q) e ∙ f)

-- ---- words, parameters, numbers

name_run : (w rest : List ℕ) → IsName w rest → word_length (w ++ rest) ≡ length w
name_run w rest h = run_whole is_word w rest h.only h.whole

read_word : (w rest : List ℕ) → IsName w rest → lex_word (w ++ rest) ≡ lex_result.Lexeme (word_or_name (reserved_word w)) (length w)
unfolding lex_word
read_word w rest h =
    let n = name_run w rest h in
    cond-false (nat_lt longest_word (word_length (w ++ rest))) lex_result.Wrong _ (ap (nat_lt longest_word) n ∙ le-ltb longest_word (length w) h.short)
    ∙ ap (λ (k : ℕ). lex_result.Lexeme (word_or_name (reserved_word (take k (w ++ rest)))) k) n ∙ ap (λ (v : List ℕ). lex_result.Lexeme (word_or_name (reserved_word v)) (length w)) (take-append_seam w rest)

unmarked : (b : ℕ) (w rest : List ℕ) → Each is_word w → NoMark (b ∷ w) rest → (is_mark b && begins is_quote (w ++ rest)) ≡ false
unmarked b (c ∷ w) rest h n = ap (λ (v : Bool). is_mark b && v) (word_not_quote c h.0) ∙ and-false (is_mark b)
unmarked b [] rest h n =
    elim (is_mark b) as (λ v. is_mark b ≡ v → (v && begins is_quote rest) ≡ false) [
      | false ↦ λ e. refl
      | true ↦ λ e. elim (begins is_quote rest) as (λ v. begins is_quote rest ≡ v → v ≡ false) [ false ↦ λ f. refl | true ↦ λ f. absurd (n b refl e f) ] refl
    ] refl

name_front : (w rest : List ℕ) → IsName w rest → NoMark w rest → lex_first (w ++ rest) ≡ lex_result.Lexeme (word_or_name (reserved_word w)) (length w)
name_front [] rest h n = absurd (let t : false ≡ true = h.first in cc)
name_front (b ∷ w) rest h n = to_word b (w ++ rest) h.first (unmarked b w rest h.only.1 n) ∙ read_word (b ∷ w) rest h

begins_whole : (w rest : List ℕ) → begins is_letter w ≡ true → begins is_letter (w ++ rest) ≡ true
begins_whole [] rest e = absurd (let t : false ≡ true = e in cc)
begins_whole (b ∷ w) rest e = e

parameter_read : (w rest : List ℕ) → IsName w rest → reserved_word w ≡ None → lex_parameter (w ++ rest) ≡ lex_result.Lexeme kind.Parameter (length w + 1)
unfolding lex_parameter
parameter_read w rest h r =
    let n = name_run w rest h in
    cond-false (not (begins is_letter (w ++ rest)) || nat_lt longest_word (word_length (w ++ rest))) lex_result.Wrong _
    (ap (λ (v : Bool). not v || nat_lt longest_word (word_length (w ++ rest))) (begins_whole w rest h.first) ∙ ap (nat_lt longest_word) n ∙ le-ltb longest_word (length w) h.short)
    ∙ ap (λ (k : ℕ). name_or_wrong k (reserved_word (take k (w ++ rest)))) n ∙ ap (λ (v : List ℕ). name_or_wrong (length w) (reserved_word v)) (take-append_seam w rest) ∙ ap (name_or_wrong (length w)) r

grows : (n : ℕ) (ds : List ℕ) → n ≤ number_after n ds
grows n [] = omega arith
grows n (c ∷ cs) = let l = grows (n * 10 + (c - 48)) cs in omega (arith, l)

next_is : (n c : ℕ) → is_digit c ≡ true → n * 10 + (c - 48) ≤ greatest_integer → next_integer n c ≡ Some (n * 10 + (c - 48))
unfolding next_integer
next_is n c d l = cond-true (is_digit c) _ None d ∙ cond-false (nat_lt greatest_integer (n * 10 + (c - 48))) None _ (le-ltb greatest_integer (n * 10 + (c - 48)) l)

integer_read : (n : ℕ) (ds : List ℕ) → Each is_digit ds → number_after n ds ≤ greatest_integer → integer n ds ≡ Some (number_after n ds)
unfolding integer
integer_read n [] h l = refl
integer_read n (c ∷ cs) h l =
    let small : n * 10 + (c - 48) ≤ greatest_integer = let g = grows (n * 10 + (c - 48)) cs in omega (arith, g, l) in
    ap (λ (o : Option ℕ). elim o as (λ _. Option ℕ) [ None ↦ None | Some v ↦ integer v cs ]) (next_is n c h.0 small) ∙ integer_read (n * 10 + (c - 48)) cs h.1 l

digits_are_words : (ds : List ℕ) → Each is_digit ds → Each is_word ds
digits_are_words [] h = tt
digits_are_words (d ∷ ds) h = (digit_is_word d h.0, digits_are_words ds h.1)

integer_front_read : (ds rest : List ℕ) (v : ℕ) → IsInteger ds v rest → lex_integer (ds ++ rest) ≡ lex_result.Lexeme (kind.Int v) (length ds)
unfolding lex_integer
integer_front_read ds rest v h =
    let n = run_whole is_word ds rest (digits_are_words ds h.only) h.whole in
    let small : number_after 0 ds ≤ greatest_integer = let e = h.says in let l = h.small in omega (arith, e, l) in
    ap (λ (k : ℕ). int_or_wrong k (integer 0 (take k (ds ++ rest)))) n ∙ ap (λ (w : List ℕ). int_or_wrong (length ds) (integer 0 w)) (take-append_seam ds rest)
    ∙ ap (int_or_wrong (length ds)) (integer_read 0 ds h.only small) ∙ ap (λ (k : ℕ). lex_result.Lexeme (kind.Int k) (length ds)) h.says

-- ---- signs

not_next : (p : ℕ → Bool) (rest : List ℕ) → ((b : ℕ) (more : List ℕ) → rest ≡ b ∷ more → p b ≡ false) → begins p rest ≡ false
not_next p [] h = refl
not_next p (b ∷ rest) h = h b rest refl

pair_less : (c : ℕ) → is_pair 60 c ≡ false → ((c == 61) ≡ false) × ((c == 62) ≡ false)
unfolding is_pair
pair_less c e = or_parts (c == 61) (c == 62) (or_parts ((c == 61) || (c == 62)) false (or_parts (((c == 61) || (c == 62)) || false) false e).0).0

pair_greater : (c : ℕ) → is_pair 62 c ≡ false → (c == 61) ≡ false
unfolding is_pair
pair_greater c e = (or_parts (c == 61) false e).0

pair_minus : (c : ℕ) → is_pair 45 c ≡ false → (c == 45) ≡ false
unfolding is_pair
pair_minus c e = e

sign_read : (s : Sign) (rest : List ℕ) → NoPair (sign s) rest → lex_first (sign s ++ rest) ≡ lex_result.Lexeme (kind.Sign s) (length (sign s))
unfolding lex_first is_blank is_mark is_letter is_digit is_quote lex_sign
sign_read sgn.Open rest h = refl
sign_read sgn.Close rest h = refl
sign_read sgn.Comma rest h = refl
sign_read sgn.Dot rest h = refl
sign_read sgn.Semicolon rest h = refl
sign_read sgn.Star rest h = refl
sign_read sgn.Plus rest h = refl
sign_read sgn.Minus rest h = cond-false (begins (λ c. c == 45) rest) _ _ (not_next (λ c. c == 45) rest (λ b more e. pair_minus b (h 45 b more refl e)))
sign_read sgn.Equal rest h = refl
sign_read sgn.LessGreater rest h = refl
sign_read sgn.BangEqual rest h = refl
sign_read sgn.Less rest h =
    cond-false (begins (λ c. c == 61) rest) _ _ (not_next (λ c. c == 61) rest (λ b more e. (pair_less b (h 60 b more refl e)).0))
    ∙ cond-false (begins (λ c. c == 62) rest) _ _ (not_next (λ c. c == 62) rest (λ b more e. (pair_less b (h 60 b more refl e)).1))
sign_read sgn.LessEqual rest h = refl
sign_read sgn.Greater rest h = cond-false (begins (λ c. c == 61) rest) _ _ (not_next (λ c. c == 61) rest (λ b more e. pair_greater b (h 62 b more refl e)))
sign_read sgn.GreaterEqual rest h = refl
sign_read sgn.Concat rest h = refl

-- ---- items

comment_read : (bytes rest : List ℕ) → Each is_on_line bytes → Stops is_on_line rest → lex_first (45 ∷ 45 ∷ (bytes ++ rest)) ≡ lex_result.Skip (2 + length bytes)
unfolding lex_first is_blank is_mark is_letter is_digit is_quote is_on_line
comment_read bytes rest h s = ap lex_result.Skip (ap (λ (n : ℕ). 1 + (1 + n)) (run_whole is_on_line bytes rest h s) ∙ omega arith)

token_read : (k : TokenKind) (bytes rest : List ℕ) → IsToken k bytes rest → lex_first (bytes ++ rest) ≡ lex_result.Lexeme k (length bytes)
token_read (kind.Word w) bytes rest h = name_front bytes rest h.0 h.1 ∙ ap (λ o. lex_result.Lexeme (word_or_name o) (length bytes)) h.2
token_read kind.Name bytes rest h = name_front bytes rest h.0 h.1 ∙ ap (λ o. lex_result.Lexeme (word_or_name o) (length bytes)) h.2
token_read kind.Parameter bytes rest h =
    ap (λ (v : List ℕ). lex_first (v ++ rest)) h.1 ∙ to_parameter (h.0 ++ rest) ∙ parameter_read h.0 rest h.2 h.3
    ∙ ap (lex_result.Lexeme kind.Parameter) (let e : length bytes ≡ suc (length h.0) = ap length h.1 in omega (arith, e))
token_read (kind.Int v) bytes rest h = integer_whole bytes rest v h
  where
    integer_whole : (ds rest : List ℕ) (v : ℕ) → IsInteger ds v rest → lex_first (ds ++ rest) ≡ lex_result.Lexeme (kind.Int v) (length ds)
    integer_whole [] rest v h = absurd (let l = h.some in omega (arith, l))
    integer_whole (d ∷ ds) rest v h = to_integer d (ds ++ rest) h.only.0 ∙ integer_front_read (d ∷ ds) rest v h
token_read kind.Str bytes rest h =
    ap (λ (v : List ℕ). lex_first (v ++ rest)) h.3 ∙ to_string h.0 (h.1 ++ rest) h.2 ∙ ap (literal_or_wrong kind.Str 1) (body_closes literal.Text h.0 h.1 rest h.2 h.4)
    ∙ ap (lex_result.Lexeme kind.Str) (let e : length bytes ≡ suc (length h.1) = ap length h.3 in omega (arith, e))
token_read kind.Bytes bytes rest h =
    ap (λ (v : List ℕ). lex_first (v ++ rest)) h.5 ∙ to_bytes h.0 h.1 (h.2 ++ rest) h.3 h.4 ∙ ap (literal_or_wrong kind.Bytes 2) (body_closes literal.Bytes h.1 h.2 rest h.4 h.6)
    ∙ ap (lex_result.Lexeme kind.Bytes) (let e : length bytes ≡ suc (suc (length h.2)) = ap length h.5 in omega (arith, e))
token_read (kind.Sign s) bytes rest h =
    ap (λ (v : List ℕ). lex_first (v ++ rest)) h.0 ∙ sign_read s rest (λ a b more same after. h.1 a b more (h.0 ∙ same) after) ∙ ap (λ (v : List ℕ). lex_result.Lexeme (kind.Sign s) (length v)) (sym h.0)

token_some : (k : TokenKind) (bytes rest : List ℕ) → IsToken k bytes rest → 0 < length bytes
token_some k bytes rest h = token_long k bytes rest (lex_first (bytes ++ rest)) (token_read k bytes rest h) (front_holds (bytes ++ rest))
  where
    token_long : (k : TokenKind) (bytes rest : List ℕ) (f : LexResult) → f ≡ lex_result.Lexeme k (length bytes) → Holds (bytes ++ rest) f → 0 < length bytes
    token_long k bytes rest f e h = (let P : LexResult → Type 0 = λ g. Holds (bytes ++ rest) g in subst P e h).1

blank_read : (b : ℕ) (rest : List ℕ) → is_blank b ≡ true → lex_first (b ∷ rest) ≡ lex_result.Skip 1
unfolding lex_first
blank_read b rest e = cond-true (is_blank b) (lex_result.Skip 1) _ e

-- ---- texts

-- the tokens of items are read
pub items_read : (at : ℕ) (is : List Item) → AreItems is → lex_from 0 at (text_of is) ≡ Some (tokens_of at is)
items_read at [] h = lexed_nil 0 at
items_read at (Blank b ∷ is) h = gap_then at b 1 (text_of is) (blank_read b (text_of is) h.0) (omega arith) ∙ items_read (at + 1) is h.1
items_read at (Comment bytes ∷ is) h =
    gap_then at 45 (2 + length bytes) (45 ∷ (bytes ++ text_of is)) (comment_read bytes (text_of is) h.0.0 h.0.1) (omega arith)
    ∙ ap (λ (v : List ℕ). lex_from 0 (at + (2 + length bytes)) v) (ap (λ (n : ℕ). drop n (45 ∷ 45 ∷ (bytes ++ text_of is))) (let e : 2 + length bytes ≡ suc (suc (length bytes)) = omega arith in e) ∙ drop-append_seam bytes (text_of is))
    ∙ ap (λ (n : ℕ). lex_from 0 (at + n) (text_of is)) (let e : 2 + length bytes ≡ length bytes + 2 = omega arith in e) ∙ items_read (at + (length bytes + 2)) is h.1
items_read at (Lexeme k bytes ∷ is) h = token_first at k bytes (text_of is) h.0 (items_read (at + length bytes) is h.1)
  where
    token_first : (at : ℕ) (k : TokenKind) (bytes rest : List ℕ) {ts : List Token} → IsToken k bytes rest → lex_from 0 (at + length bytes) rest ≡ Some ts
        → lex_from 0 at (bytes ++ rest) ≡ Some (record { kind = k; start = at; end = at + length bytes } ∷ ts)
    token_first at k [] rest h e = absurd (let l = token_some k [] rest h in omega (arith, l))
    token_first at k (b ∷ bytes) rest h e =
        lexeme_then at b (length (b ∷ bytes)) k (bytes ++ rest) (token_read k (b ∷ bytes) rest h) (omega arith)
        ∙ ap (with_token (record { kind = k; start = at; end = at + length (b ∷ bytes) })) (ap (lex_from 0 (at + length (b ∷ bytes))) (drop-append_seam bytes rest) ∙ e)

-- what is read is items
abbrev ReadsItems : ℕ → List ℕ → Option (List Token) → Type 0
ReadsItems at bytes None = Unit {0}
ReadsItems at bytes (Some ts) = (is : List Item) × AreItems is × (bytes ≡ text_of is) × (ts ≡ tokens_of at is)

item_first : (i : Item) (is : List Item) (n : ℕ) (bytes : List ℕ) → IsItem i (drop n bytes) → item_bytes i ≡ take n bytes → AreItems is → drop n bytes ≡ text_of is → AreItems (i ∷ is) × (bytes ≡ text_of (i ∷ is))
item_first i is n bytes h e are rest =
    let P : List ℕ → Type 0 = λ w. IsItem i w in
    ((subst P rest h, are), sym (take-append-drop n bytes) ∙ ap (λ (w : List ℕ). w ++ drop n bytes) (sym e) ∙ ap (λ (w : List ℕ). item_bytes i ++ w) rest)

gap_length : (i : Item) (at n : ℕ) (is : List Item) (bytes : List ℕ) → IsGap i → item_bytes i ≡ take n bytes → n ≤ length bytes → tokens_of (at + n) is ≡ tokens_of at (i ∷ is)
gap_length (Blank b) at n is bytes g e l = ap (λ (k : ℕ). tokens_of (at + k) is) (let same : 1 ≡ length (take n bytes) = ap length e in grind (arith, common_steps, same))
gap_length (Comment w) at n is bytes g e l = ap (λ (k : ℕ). tokens_of (at + k) is) (let same : suc (suc (length w)) ≡ length (take n bytes) = ap length e in grind (arith, common_steps, same))
gap_length (Lexeme k w) at n is bytes g e l = absurd g

gap_before : (at n : ℕ) (bytes : List ℕ) → Holds bytes (lex_result.Skip n) → (o : Option (List Token)) → ReadsItems (at + n) (drop n bytes) o → ReadsItems at bytes o
gap_before at n bytes h None r = tt
gap_before at n bytes h (Some ts) r =
    let made = item_first h.0 r.0 n bytes h.2 h.3 r.1 r.2 in
    (h.0 ∷ r.0, made.0, made.1, r.3 ∙ gap_length h.0 at n r.0 bytes h.1 h.3 h.5)

token_before : (at n : ℕ) (k : TokenKind) (bytes : List ℕ) → Holds bytes (lex_result.Lexeme k n) → (o : Option (List Token)) → ReadsItems (at + n) (drop n bytes) o
    → ReadsItems at bytes (with_token (record { kind = k; start = at; end = at + n }) o)
token_before at n k bytes h None r = tt
token_before at n k bytes h (Some ts) r =
    let made = item_first (Lexeme k (take n bytes)) r.0 n bytes h.0 refl r.1 r.2 in
    let long : n ≡ length (take n bytes) = let l = h.2 in grind (arith, common_steps, l) in (
      Lexeme k (take n bytes) ∷ r.0,
      made.0,
      made.1,
      ap (λ (w : List Token). record { kind = k; start = at; end = at + n } ∷ w) r.3 ∙ ap (λ (j : ℕ). record { kind = k; start = at; end = at + j } ∷ tokens_of (at + j) r.0) long,
    )

by_front : (m at b : ℕ) (bytes : List ℕ) → length (b ∷ bytes) ≤ suc m → (f : LexResult) → lex_first (b ∷ bytes) ≡ f → Holds (b ∷ bytes) f
    → ((at' : ℕ) (ws : List ℕ) → length ws ≤ m → ReadsItems at' ws (lex_from 0 at' ws)) → ReadsItems at (b ∷ bytes) (lex_from 0 at (b ∷ bytes))
by_front m at b bytes l lex_result.Wrong e h shorter = subst (ReadsItems at (b ∷ bytes)) (sym (wrong_then at b bytes e)) tt
by_front m at b bytes l (lex_result.Skip n) e h shorter =
    subst (ReadsItems at (b ∷ bytes)) (sym (gap_then at b n bytes e h.4)) (gap_before at n (b ∷ bytes) h (lex_from 0 (at + n) (drop n (b ∷ bytes))) (shorter (at + n) (drop n (b ∷ bytes)) (let p = h.4 in let q = h.5 in grind (arith, common_steps, p, q))))
by_front m at b bytes l (lex_result.Lexeme k n) e h shorter =
    subst (ReadsItems at (b ∷ bytes)) (sym (lexeme_then at b n k bytes e h.1)) (token_before at n k (b ∷ bytes) h (lex_from 0 (at + n) (drop n (b ∷ bytes))) (shorter (at + n) (drop n (b ∷ bytes)) (let p = h.1 in let q = h.2 in grind (arith, common_steps, p, q))))

reads_items : (m at : ℕ) (bytes : List ℕ) → length bytes ≤ m → ReadsItems at bytes (lex_from 0 at bytes)
reads_items m at [] l = subst (ReadsItems at []) (sym (lexed_nil 0 at)) ([], tt, refl, refl)
reads_items zero at (b ∷ bytes) l = absurd (omega arith)
reads_items (suc m) at (b ∷ bytes) l = by_front m at b bytes l (lex_first (b ∷ bytes)) refl (front_holds (b ∷ bytes)) (λ k ws h. reads_items m k ws h)

pub items_of : (bytes : List ℕ) (ts : List Token) → lex_from 0 0 bytes ≡ Some ts → (is : List Item) × AreItems is × (bytes ≡ text_of is) × (ts ≡ tokens_of 0 is)
items_of bytes ts e = subst (ReadsItems 0 bytes) e (reads_items (length bytes) 0 bytes (omega arith))
