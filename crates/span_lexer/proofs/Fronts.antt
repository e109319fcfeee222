-- What the lexer finds first in a text is an item.
use Rattle.std.proofs.Common.{◌≡◌, ℕ, zero, suc, ◌+◌, ◌-◌, ◌*◌, ◌<◌, ◌≤◌, ◌==◌, nat_lt, Bool, true, false, not, ◌&&◌, ◌||◌, List, [], ◌∷◌, ◌++◌, length, drop, take, get_or, Option, Some, None, if◌then◌else◌, refl, sym, ap, subst, ◌∙◌, arith, eqb-true, lit≤, one-add, add-one}
use Rattle.std.specs.List.{prefix_len}
use Rattle.std.proofs.lemmas.Grind.{common_steps}
use Rattle.std.proofs.lemmas.List.Sums.{prefix_len-le-length}
use Rattle.std.proofs.lemmas.Bool.{and_parts, ltb-false, cond-true, cond-false}
use Rattle.span_lexer.specs.declared.token.TokenKind.TheVariants as kind
use Rattle.span_lexer.specs.declared.token.Sign.{Sign}
use Rattle.span_lexer.specs.declared.token.Sign.TheVariants as sgn
use Rattle.span_lexer.specs.declared.lexer.LexResult.{LexResult}
use Rattle.span_lexer.specs.declared.lexer.LexResult.TheVariants as lex_result
use Rattle.span_lexer.specs.declared.literal.Literal.TheVariants as literal
use Rattle.span_lexer.specs.Characters.{is_blank, is_letter, is_digit, is_word, is_quote, is_mark, begins}
use Rattle.span_lexer.specs.Spellings.{reserved_word, sign}
use Rattle.span_lexer.specs.Literals.{closing_quote}
use Rattle.span_lexer.specs.Lexing.{word_length, lex_word, word_or_name, integer, next_integer, lex_integer, int_or_wrong, lex_parameter, name_or_wrong, literal_or_wrong, lex_bytes, lex_sign, is_on_line, lex_first, greatest_integer, longest_word, Reaches}
use Rattle.span_lexer.specs.Tokens.{Each, Stops, IsName, NoMark, number_after, is_pair, IsToken, Item, Blank, Comment, Lexeme, item_bytes, IsItem}
use Rattle.span_lexer.proofs.Words.{choose}
use Rattle.span_lexer.proofs.Pieces.{body_read, ReadsBody}

-- ---- runs

pub each_run : (p : ℕ → Bool) (bs : List ℕ) → Each p (take (prefix_len p bs) bs)
each_run p [] = tt
each_run p (b ∷ bs) =
    elim (p b) as (λ v. p b ≡ v → Each p (take (if v then 1 + prefix_len p bs else 0) (b ∷ bs))) [
      | true ↦ λ e. let P : ℕ → Type 0 = λ n. Each p (take n (b ∷ bs)) in subst P (sym (one-add (prefix_len p bs))) (e, each_run p bs)
      | false ↦ λ e. tt
    ] refl

pub stops_run : (p : ℕ → Bool) (bs : List ℕ) → Stops p (drop (prefix_len p bs) bs)
stops_run p [] = refl
stops_run p (b ∷ bs) =
    elim (p b) as (λ v. p b ≡ v → Stops p (drop (if v then 1 + prefix_len p bs else 0) (b ∷ bs))) [
      | true ↦ λ e. let P : ℕ → Type 0 = λ n. Stops p (drop n (b ∷ bs)) in subst P (sym (one-add (prefix_len p bs))) (stops_run p bs)
      | false ↦ λ e. e
    ] refl

pub run_first : (p : ℕ → Bool) (b : ℕ) (bs : List ℕ) → p b ≡ true → prefix_len p (b ∷ bs) ≡ suc (prefix_len p bs)
run_first p b bs e = cond-true (p b) (1 + prefix_len p bs) 0 e ∙ one-add (prefix_len p bs)

pub run_whole : (p : ℕ → Bool) (bs rest : List ℕ) → Each p bs → Stops p rest → prefix_len p (bs ++ rest) ≡ length bs
run_whole p [] [] h s = refl
run_whole p [] (b ∷ rest) h s = cond-false (p b) (1 + prefix_len p rest) 0 s
run_whole p (b ∷ bs) rest h s = run_first p b (bs ++ rest) h.0 ∙ ap suc (run_whole p bs rest h.1 s)

pub letter_is_word : (c : ℕ) → is_letter c ≡ true → is_word c ≡ true
unfolding is_word
letter_is_word c e = ap (λ (v : Bool). v || is_digit c) e

pub digit_is_word : (c : ℕ) → is_digit c ≡ true → is_word c ≡ true
unfolding is_word
digit_is_word c e = elim (is_letter c) as (λ v. (v || is_digit c) ≡ true) [ true ↦ refl | false ↦ e ]

-- ---- what holds of it

abbrev pub IsGap : Item → Type 0
IsGap (Blank b) = Unit {0}
IsGap (Comment bs) = Unit {0}
IsGap (Lexeme k bs) = ⊥

abbrev pub Holds : List ℕ → LexResult → Type 0
Holds bs (lex_result.Skip n) = (i : Item) × IsGap i × IsItem i (drop n bs) × (item_bytes i ≡ take n bs) × (0 < n) × (n ≤ length bs)
Holds bs (lex_result.Lexeme k n) = IsToken k (take n bs) (drop n bs) × (0 < n) × (n ≤ length bs)
Holds bs lex_result.Wrong = Unit {0}

name_of : (b : ℕ) (bs : List ℕ) → is_letter b ≡ true → word_length (b ∷ bs) ≤ longest_word → IsName (take (word_length (b ∷ bs)) (b ∷ bs)) (drop (word_length (b ∷ bs)) (b ∷ bs))
name_of b bs e short =
    let n = run_first is_word b bs (letter_is_word b e) in
    let P : ℕ → Type 0 = λ k. begins is_letter (take k (b ∷ bs)) ≡ true in
    record { first = subst P (sym n) e; only = each_run is_word (b ∷ bs); short = grind (arith, common_steps, short); whole = stops_run is_word (b ∷ bs) }

no_mark : (b : ℕ) (bs : List ℕ) (n : ℕ) → (is_mark b && begins is_quote bs) ≡ false → NoMark (take (suc n) (b ∷ bs)) (drop (suc n) (b ∷ bs))
no_mark b bs zero e m same mark quote =
    let first : b ≡ m = ap (λ (w : List ℕ). get_or w 0 0) same in
    let both : (is_mark b && begins is_quote bs) ≡ true = ap (λ (v : Bool). v && begins is_quote bs) (ap is_mark first ∙ mark) ∙ quote in
    absurd cc
no_mark b [] (suc n) e m same mark quote = cc
no_mark b (c ∷ bs) (suc n) e m same mark quote = let l : suc (suc (length (take n bs))) ≡ 1 = ap length same in absurd (omega (arith, l))

word_holds : (b : ℕ) (bs : List ℕ) → is_letter b ≡ true → (is_mark b && begins is_quote bs) ≡ false → Holds (b ∷ bs) (lex_word (b ∷ bs))
unfolding lex_word
word_holds b bs e m =
    let n = word_length (b ∷ bs) in
    let first = run_first is_word b bs (letter_is_word b e) in
    let some : 0 < n = omega (arith, first) in
    let P : ℕ → Type 0 = λ k. NoMark (take k (b ∷ bs)) (drop k (b ∷ bs)) in
    let unmarked : NoMark (take n (b ∷ bs)) (drop n (b ∷ bs)) = subst P (sym first) (no_mark b bs (word_length bs) m) in
    choose (Holds (b ∷ bs)) (nat_lt longest_word n) lex_result.Wrong _ (λ h. tt)
    (λ h. elim (reserved_word (take n (b ∷ bs))) as (λ o. reserved_word (take n (b ∷ bs)) ≡ o → Holds (b ∷ bs) (lex_result.Lexeme (word_or_name o) n)) [
      | None ↦ λ r. ((name_of b bs e (ltb-false longest_word n h), unmarked, r), some, prefix_len-le-length is_word (b ∷ bs))
      | Some w ↦ λ r. ((name_of b bs e (ltb-false longest_word n h), unmarked, r), some, prefix_len-le-length is_word (b ∷ bs))
    ] refl)

-- ---- numbers

abbrev Counts : ℕ → List ℕ → Option ℕ → Type 0
Counts n ds None = Unit {0}
Counts n ds (Some v) = Each is_digit ds × (number_after n ds ≡ v) × (v ≤ greatest_integer)

abbrev CountsOne : ℕ → ℕ → Option ℕ → Type 0
CountsOne n c None = Unit {0}
CountsOne n c (Some v) = (is_digit c ≡ true) × (n * 10 + (c - 48) ≡ v) × (v ≤ greatest_integer)

counts_one : (n c : ℕ) → CountsOne n c (next_integer n c)
unfolding next_integer
counts_one n c = choose (CountsOne n c) (is_digit c) _ None (λ d. choose (CountsOne n c) (nat_lt greatest_integer (n * 10 + (c - 48))) None _ (λ h. tt) (λ h. (d, refl, ltb-false greatest_integer (n * 10 + (c - 48)) h))) (λ d. tt)

counts_first : (n c v : ℕ) (cs : List ℕ) → is_digit c ≡ true → n * 10 + (c - 48) ≡ v → (o : Option ℕ) → Counts v cs o → Counts n (c ∷ cs) o
counts_first n c v cs d e None h = tt
counts_first n c v cs d e (Some w) h = ((d, h.0), ap (λ (k : ℕ). number_after k cs) e ∙ h.1, h.2)

counts_more : (n c : ℕ) (cs : List ℕ) (o : Option ℕ) → CountsOne n c o → ((v : ℕ) → v ≤ greatest_integer → Counts v cs (integer v cs)) → Counts n (c ∷ cs) (elim o [ None ↦ None | Some v ↦ integer v cs ])
counts_more n c cs None h later = tt
counts_more n c cs (Some v) h later = counts_first n c v cs h.0 h.1 (integer v cs) (later v h.2)

counts : (n : ℕ) (ds : List ℕ) → n ≤ greatest_integer → Counts n ds (integer n ds)
unfolding integer
counts n [] l = (tt, refl, l)
counts n (c ∷ cs) l = counts_more n c cs (next_integer n c) (counts_one n c) (λ v h. counts v cs h)

integer_holds : (b : ℕ) (bs : List ℕ) → is_digit b ≡ true → Holds (b ∷ bs) (lex_integer (b ∷ bs))
unfolding lex_integer
integer_holds b bs d =
    let n = word_length (b ∷ bs) in
    let first = run_first is_word b bs (digit_is_word b d) in
    let some : 0 < n = omega (arith, first) in
    let within = prefix_len-le-length is_word (b ∷ bs) in
    let long : 0 < length (take n (b ∷ bs)) = grind (arith, common_steps, some, within) in
    elim (integer 0 (take n (b ∷ bs))) as (λ o. Counts 0 (take n (b ∷ bs)) o → Holds (b ∷ bs) (int_or_wrong n o)) [
      | None ↦ λ h. tt
      | Some v ↦ λ h. (record { some = long; only = h.0; says = h.1; small = h.2; whole = stops_run is_word (b ∷ bs) }, some, within)
    ] (counts 0 (take n (b ∷ bs)) (lit≤ tt))

-- ---- parameters

first_of_word : (bs : List ℕ) → begins is_letter bs ≡ true → word_length bs ≤ longest_word → IsName (take (word_length bs) bs) (drop (word_length bs) bs)
first_of_word [] e short = absurd (let t : false ≡ true = e in cc)
first_of_word (b ∷ bs) e short = name_of b bs e short

not_or : (a b : Bool) → (not a || b) ≡ false → (a ≡ true) × (b ≡ false)
not_or true b e = (refl, e)
not_or false b e = absurd (let t : true ≡ false = e in cc)

parameter_holds : (bs : List ℕ) → Holds (64 ∷ bs) (lex_parameter bs)
unfolding lex_parameter
parameter_holds bs =
    let n = word_length bs in
    choose (Holds (64 ∷ bs)) (not (begins is_letter bs) || nat_lt longest_word n) lex_result.Wrong _ (λ h. tt)
    (λ h. let two = not_or (begins is_letter bs) (nat_lt longest_word n) h in
    elim (reserved_word (take n bs)) as (λ o. reserved_word (take n bs) ≡ o → Holds (64 ∷ bs) (name_or_wrong n o)) [
      | None ↦ λ r.
          let P : ℕ → Type 0 = λ k. IsToken kind.Parameter (take k (64 ∷ bs)) (drop k (64 ∷ bs)) in
          let within = prefix_len-le-length is_word bs in
          (subst P (sym (add-one n)) (take n bs, refl, first_of_word bs two.0 (ltb-false longest_word n two.1), r), omega arith, omega (arith, within))
      | Some w ↦ λ r. tt
    ] refl)

-- ---- literals

string_holds : (q : ℕ) (bs : List ℕ) → is_quote q ≡ true → (o : Option ℕ) → ReadsBody literal.Text q bs o → Holds (q ∷ bs) (literal_or_wrong kind.Str 1 o)
string_holds q bs quote None h = tt
string_holds q bs quote (Some n) h =
    let P : ℕ → Type 0 = λ k. IsToken kind.Str (take k (q ∷ bs)) (drop k (q ∷ bs)) in
    (subst P (sym (one-add n)) (q, take n bs, quote, refl, h.0), omega arith, omega (arith, h.2))

two_plus : (n : ℕ) → 2 + n ≡ suc (suc n)
two_plus n = omega arith

bytes_hold : (m q : ℕ) (bs : List ℕ) → is_mark m ≡ true → is_quote q ≡ true → (o : Option ℕ) → ReadsBody literal.Bytes q bs o → Holds (m ∷ q ∷ bs) (literal_or_wrong kind.Bytes 2 o)
bytes_hold m q bs mark quote None h = tt
bytes_hold m q bs mark quote (Some n) h =
    let P : ℕ → Type 0 = λ k. IsToken kind.Bytes (take k (m ∷ q ∷ bs)) (drop k (m ∷ q ∷ bs)) in
    (subst P (sym (two_plus n)) (m, q, take n bs, mark, quote, refl, h.0), omega arith, omega (arith, h.2))

bytes_front_holds : (m : ℕ) (bs : List ℕ) → is_mark m ≡ true → begins is_quote bs ≡ true → Holds (m ∷ bs) (lex_bytes bs)
unfolding lex_bytes
bytes_front_holds m [] mark quote = tt
bytes_front_holds m (q ∷ bs) mark quote = bytes_hold m q bs mark quote (closing_quote literal.Bytes q 0 bs) (body_read literal.Bytes q bs)

-- ---- signs

one_byte : (b k : ℕ) (s : Sign) (bs : List ℕ) → (b == k) ≡ true → k ∷ [] ≡ sign s → ((c : ℕ) (more : List ℕ) → bs ≡ c ∷ more → is_pair k c ≡ false) → Holds (b ∷ bs) (lex_result.Lexeme (kind.Sign s) 1)
one_byte b k s bs e spelled alone =
    let P : ℕ → Type 0 = λ x. IsToken (kind.Sign s) (x ∷ []) bs in
    (subst P (sym (eqb-true b k e)) (spelled, λ x c more same after. ap (λ (w : ℕ). is_pair w c) (sym (ap (λ (w : List ℕ). get_or w 0 0) same)) ∙ alone c more after), omega arith, omega arith)

two_bytes : (b k c : ℕ) (s : Sign) (bs : List ℕ) → (b == k) ≡ true → begins (λ x. x == c) bs ≡ true → k ∷ c ∷ [] ≡ sign s → Holds (b ∷ bs) (lex_result.Lexeme (kind.Sign s) 2)
two_bytes b k c s [] e f spelled = absurd (let t : false ≡ true = f in cc)
two_bytes b k c s (d ∷ bs) e f spelled = (
  (
    ap (λ (w : ℕ). w ∷ d ∷ []) (eqb-true b k e) ∙ ap (λ (w : ℕ). k ∷ w ∷ []) (eqb-true d c f) ∙ spelled,
    λ x y more same after. absurd (let l : 2 ≡ 1 = ap length same in omega (arith, l)),
  ),
  omega arith,
  omega arith,
)

other_next : (p : ℕ → Bool) (bs : List ℕ) (c : ℕ) (more : List ℕ) → begins p bs ≡ false → bs ≡ c ∷ more → p c ≡ false
other_next p bs c more e same = sym (ap (begins p) same) ∙ e

less_alone : (c : ℕ) → (c == 61) ≡ false → (c == 62) ≡ false → is_pair 60 c ≡ false
unfolding is_pair
less_alone c e f = ap (λ (v : Bool). ((v || (c == 62)) || false) || false) e ∙ ap (λ (v : Bool). (v || false) || false) f

greater_alone : (c : ℕ) → (c == 61) ≡ false → is_pair 62 c ≡ false
unfolding is_pair
greater_alone c e = ap (λ (v : Bool). v || false) e

minus_alone : (c : ℕ) → (c == 45) ≡ false → is_pair 45 c ≡ false
unfolding is_pair
minus_alone c e = e

no_comment : (b : ℕ) (bs : List ℕ) → (b == 45) ≡ true → (b == 45 && begins (λ c. c == 45) bs) ≡ false → begins (λ c. c == 45) bs ≡ false
no_comment b bs e f = sym (ap (λ (v : Bool). v && begins (λ c. c == 45) bs) e) ∙ f

sign_holds : (b : ℕ) (bs : List ℕ) → (b == 45 && begins (λ c. c == 45) bs) ≡ false → Holds (b ∷ bs) (lex_sign b bs)
unfolding lex_sign is_pair
sign_holds b bs m =
    choose (Holds (b ∷ bs)) (b == 40) _ _ (λ e. one_byte b 40 sgn.Open bs e refl (λ c more h. refl))
    (λ e1. choose (Holds (b ∷ bs)) (b == 41) _ _ (λ e. one_byte b 41 sgn.Close bs e refl (λ c more h. refl))
    (λ e2. choose (Holds (b ∷ bs)) (b == 44) _ _ (λ e. one_byte b 44 sgn.Comma bs e refl (λ c more h. refl))
    (λ e3. choose (Holds (b ∷ bs)) (b == 46) _ _ (λ e. one_byte b 46 sgn.Dot bs e refl (λ c more h. refl))
    (λ e4. choose (Holds (b ∷ bs)) (b == 59) _ _ (λ e. one_byte b 59 sgn.Semicolon bs e refl (λ c more h. refl))
    (λ e5. choose (Holds (b ∷ bs)) (b == 42) _ _ (λ e. one_byte b 42 sgn.Star bs e refl (λ c more h. refl))
    (λ e6. choose (Holds (b ∷ bs)) (b == 43) _ _ (λ e. one_byte b 43 sgn.Plus bs e refl (λ c more h. refl))
    (λ e7. choose (Holds (b ∷ bs)) (b == 45) _ _ (λ e. one_byte b 45 sgn.Minus bs e refl (λ c more h. minus_alone c (other_next (λ x. x == 45) bs c more (no_comment b bs e m) h)))
    (λ e8. choose (Holds (b ∷ bs)) (b == 61) _ _ (λ e. one_byte b 61 sgn.Equal bs e refl (λ c more h. refl))
    (λ e9. choose (Holds (b ∷ bs)) (b == 60) _ _
    (λ e. choose (Holds (b ∷ bs)) (begins (λ c. c == 61) bs) _ _ (λ f. two_bytes b 60 61 sgn.LessEqual bs e f refl)
    (λ f. choose (Holds (b ∷ bs)) (begins (λ c. c == 62) bs) _ _ (λ g. two_bytes b 60 62 sgn.LessGreater bs e g refl)
    (λ g. one_byte b 60 sgn.Less bs e refl (λ c more h. less_alone c (other_next (λ x. x == 61) bs c more f h) (other_next (λ x. x == 62) bs c more g h)))))
    (λ e10. choose (Holds (b ∷ bs)) (b == 62) _ _
    (λ e. choose (Holds (b ∷ bs)) (begins (λ c. c == 61) bs) _ _ (λ f. two_bytes b 62 61 sgn.GreaterEqual bs e f refl)
    (λ f. one_byte b 62 sgn.Greater bs e refl (λ c more h. greater_alone c (other_next (λ x. x == 61) bs c more f h))))
    (λ e11. choose (Holds (b ∷ bs)) (b == 33) _ _
    (λ e. choose (Holds (b ∷ bs)) (begins (λ c. c == 61) bs) _ lex_result.Wrong (λ f. two_bytes b 33 61 sgn.BangEqual bs e f refl) (λ f. tt))
    (λ e12. choose (Holds (b ∷ bs)) (b == 124) _ lex_result.Wrong
    (λ e. choose (Holds (b ∷ bs)) (begins (λ c. c == 124) bs) _ lex_result.Wrong (λ f. two_bytes b 124 124 sgn.Concat bs e f refl) (λ f. tt))
    (λ e13. tt)))))))))))))

-- ---- all cases together

comment_holds : (b : ℕ) (bs : List ℕ) → (b == 45 && begins (λ c. c == 45) bs) ≡ true → Holds (b ∷ bs) (lex_result.Skip (1 + prefix_len is_on_line bs))
unfolding is_on_line
comment_holds b [] e = absurd (let t : (b == 45 && false) ≡ true = e in grind arith)
comment_holds b (c ∷ bs) e =
    let two = and_parts (b == 45) (c == 45) e in
    let n = prefix_len is_on_line bs in
    let P : ℕ → Type 0 = λ k. Holds (45 ∷ 45 ∷ bs) (lex_result.Skip k) in
    let length_is : suc (suc n) ≡ 1 + (1 + n) = omega arith in
    let within = prefix_len-le-length is_on_line bs in
    let dashes : Holds (45 ∷ 45 ∷ bs) (lex_result.Skip (1 + prefix_len is_on_line (45 ∷ bs))) = subst P length_is (Comment (take n bs), tt, (each_run is_on_line bs, stops_run is_on_line bs), refl, omega arith, omega (arith, within)) in
    let Q : ℕ → Type 0 = λ x. Holds (45 ∷ x ∷ bs) (lex_result.Skip (1 + prefix_len is_on_line (x ∷ bs))) in
    let R : ℕ → Type 0 = λ x. Holds (x ∷ c ∷ bs) (lex_result.Skip (1 + prefix_len is_on_line (c ∷ bs))) in
    subst R (sym (eqb-true b 45 two.0)) (subst Q (sym (eqb-true c 45 two.1)) dashes)

pub front_holds : (bs : List ℕ) → Holds bs (lex_first bs)
unfolding lex_first
front_holds [] = tt
front_holds (b ∷ bs) =
    choose (Holds (b ∷ bs)) (is_blank b) (lex_result.Skip 1) _ (λ e. (Blank b, tt, e, refl, omega arith, omega arith))
    (λ e1. choose (Holds (b ∷ bs)) (is_mark b && begins is_quote bs) (lex_bytes bs) _ (λ e. let two = and_parts (is_mark b) (begins is_quote bs) e in bytes_front_holds b bs two.0 two.1)
    (λ e2. choose (Holds (b ∷ bs)) (is_letter b) (lex_word (b ∷ bs)) _ (λ e. word_holds b bs e e2)
    (λ e3. choose (Holds (b ∷ bs)) (is_digit b) (lex_integer (b ∷ bs)) _ (λ e. integer_holds b bs e)
    (λ e4. choose (Holds (b ∷ bs)) (b == 64) (lex_parameter bs) _ (λ e. let P : ℕ → Type 0 = λ x. Holds (x ∷ bs) (lex_parameter bs) in subst P (sym (eqb-true b 64 e)) (parameter_holds bs))
    (λ e5. choose (Holds (b ∷ bs)) (is_quote b) (literal_or_wrong kind.Str 1 (closing_quote literal.Text b 0 bs)) _ (λ e. string_holds b bs e (closing_quote literal.Text b 0 bs) (body_read literal.Text b bs))
    (λ e6. choose (Holds (b ∷ bs)) (b == 45 && begins (λ c. c == 45) bs) (lex_result.Skip (1 + prefix_len is_on_line bs)) (lex_sign b bs) (λ e. comment_holds b bs e) (λ e. sign_holds b bs e)))))))

pub front_reaches : (bs : List ℕ) → Reaches (length bs) (lex_first bs)
front_reaches bs = reaches bs (lex_first bs) (front_holds bs)
  where
    reaches : (bs : List ℕ) (f : LexResult) → Holds bs f → Reaches (length bs) f
    reaches bs (lex_result.Skip n) h = (h.4, h.5)
    reaches bs (lex_result.Lexeme k n) h = (h.1, h.2)
    reaches bs lex_result.Wrong h = tt
