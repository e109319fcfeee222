-- The value of the inside of a literal, character by character.
use Rattle.std.proofs.Common.{◌≡◌, ◌≢◌, ◌∙◌, sym, refl, ap, ℕ, zero, suc, ◌≤◌, ◌==◌, ◌%◌, Bool, true, false, List, [], ◌∷◌, ◌++◌, length, arith, Option, Some, None, if◌then◌else◌}
use Rattle.std.specs.Str.{encode_utf8_all}
use Rattle.std.specs.Char.{encode_utf8}
use Rattle.std.proofs.lemmas.Bool.{eq-eqb, ne_eqb}
use Rattle.std.proofs.lemmas.List.{append-nil, append_assoc}
use Rattle.span_lexer.specs.LiteralValues.{two_digits, four_digits, code_of, read_escape, escape_or_letter, read_after_backslash, decode_first, decode_up_to, decode_all, as_bytes}

-- ---- each character takes one at least

abbrev Within : List ℕ → Option (ℕ × List ℕ) → Type 0
Within cs None = Unit {0}
Within cs (Some p) = length p.1 ≤ length cs

two_within : (cs : List ℕ) → Within cs (two_digits cs)
unfolding two_digits
two_within [] = tt
two_within (h ∷ []) = tt
two_within (h ∷ l ∷ cs) = omega arith

four_within : (cs : List ℕ) → Within cs (four_digits cs)
unfolding four_digits
four_within [] = tt
four_within (a ∷ []) = tt
four_within (a ∷ b ∷ []) = tt
four_within (a ∷ b ∷ c ∷ []) = tt
four_within (a ∷ b ∷ c ∷ d ∷ cs) = omega arith

code_within : (c : ℕ) (cs : List ℕ) → Within cs (code_of c cs)
code_within c cs = go (c == 120) (c == 117) where
  go : (x u : Bool) → Within cs (if x then two_digits cs else (if u then four_digits cs else None))
  go true u = two_within cs
  go false true = four_within cs
  go false false = tt

escaped_within : (c : ℕ) (cs : List ℕ) → length (read_escape c cs).1 ≤ length cs
escaped_within c cs = go (code_of c cs) (code_within c cs) where
  go : (code : Option (ℕ × List ℕ)) → Within cs code → length (escape_or_letter code c cs).1 ≤ length cs
  go None in_it = omega arith
  go (Some p) in_it = in_it

backslash_within : (cs : List ℕ) → length (read_after_backslash cs).1 ≤ length cs
backslash_within [] = omega arith
backslash_within (c ∷ cs) = omega (arith, escaped_within c cs)

first_within : (c : ℕ) (cs : List ℕ) → length (decode_first c cs).1 ≤ length cs
first_within c cs = go (c == 92) where
  go : (b : Bool) → length (if b then read_after_backslash cs else (c, cs)).1 ≤ length cs
  go true = backslash_within cs
  go false = omega arith

none_left : (n : ℕ) → decode_up_to n [] ≡ []
unfolding decode_up_to
none_left zero = refl
none_left (suc n) = refl

enough : (n m : ℕ) (cs : List ℕ) → length cs ≤ n → length cs ≤ m → decode_up_to n cs ≡ decode_up_to m cs
unfolding decode_up_to
enough n m [] in_n in_m = none_left n ∙ sym (none_left m)
enough zero m (c ∷ cs) in_n in_m = absurd (omega (arith, in_n))
enough (suc n) zero (c ∷ cs) in_n in_m = absurd (omega (arith, in_m))
enough (suc n) (suc m) (c ∷ cs) in_n in_m =
    ap (λ (xs : List ℕ). (decode_first c cs).0 ∷ xs) (enough n m (decode_first c cs).1 (omega (arith, first_within c cs, in_n)) (omega (arith, first_within c cs, in_m)))

one_more : (c : ℕ) (cs : List ℕ) → decode_all (c ∷ cs) ≡ (decode_first c cs).0 ∷ decode_all (decode_first c cs).1
unfolding decode_all decode_up_to
one_more c cs = ap (λ (xs : List ℕ). (decode_first c cs).0 ∷ xs) (enough (length cs) (length (decode_first c cs).1) (decode_first c cs).1 (first_within c cs) (omega arith))

-- ---- the steps of reading

pub no_more : (cs : List ℕ) → cs ≡ [] → decode_all cs ≡ []
unfolding decode_all decode_up_to
no_more cs none = ap decode_all none

by_test : (cs : List ℕ) (c : ℕ) (ds : List ℕ) (b : Bool) (p : ℕ × List ℕ) → cs ≡ c ∷ ds → (c == 92) ≡ b → (if b then read_after_backslash ds else (c, ds)) ≡ p → decode_all cs ≡ p.0 ∷ decode_all p.1
by_test cs c ds b p first test is =
    ap decode_all first ∙ one_more c ds
    ∙ ap (λ (x : Bool). (if x then read_after_backslash ds else (c, ds)).0 ∷ decode_all (if x then read_after_backslash ds else (c, ds)).1) test
    ∙ ap (λ (q : ℕ × List ℕ). q.0 ∷ decode_all q.1) is

pub more_by_escape : (cs : List ℕ) (c : ℕ) (ds : List ℕ) (d : ℕ) (es : List ℕ) → cs ≡ c ∷ ds → c ≡ 92 → read_after_backslash ds ≡ (d, es) → decode_all cs ≡ d ∷ decode_all es
more_by_escape cs c ds d es first test is = by_test cs c ds true (d, es) first (eq-eqb c 92 test) is

pub more_by_itself : (cs : List ℕ) (c : ℕ) (ds : List ℕ) → cs ≡ c ∷ ds → c ≢ 92 → decode_all cs ≡ c ∷ decode_all ds
more_by_itself cs c ds first test = by_test cs c ds false (c, ds) first (ne_eqb c 92 test) refl

pub ruleset meaning_steps = (no_more, more_by_escape, more_by_itself)

-- ---- the loops

pub text_more : (whole bs cs : List ℕ) (c : ℕ) (ds new : List ℕ) → whole ≡ bs ++ encode_utf8_all (decode_all cs) → decode_all cs ≡ c ∷ decode_all ds → new ≡ bs ++ encode_utf8 c → whole ≡ new ++ encode_utf8_all (decode_all ds)
text_more whole bs cs c ds new so_far first pushed =
    so_far ∙ ap (λ (xs : List ℕ). bs ++ encode_utf8_all xs) first ∙ sym (append_assoc bs (encode_utf8 c) (encode_utf8_all (decode_all ds))) ∙ ap (λ (xs : List ℕ). xs ++ encode_utf8_all (decode_all ds)) (sym pushed)

pub text_ends : (whole bs cs : List ℕ) → whole ≡ bs ++ encode_utf8_all (decode_all cs) → decode_all cs ≡ [] → bs ≡ whole
text_ends whole bs cs so_far none = sym (so_far ∙ ap (λ (xs : List ℕ). bs ++ encode_utf8_all xs) none ∙ append-nil bs)

pub ruleset text_steps = (text_more, text_ends)

pub bytes_more : (whole bs cs : List ℕ) (c : ℕ) (ds new : List ℕ) (b : ℕ) → whole ≡ bs ++ as_bytes (decode_all cs) → decode_all cs ≡ c ∷ decode_all ds → b ≡ c % 256 → new ≡ bs ++ b ∷ [] → whole ≡ new ++ as_bytes (decode_all ds)
bytes_more whole bs cs c ds new b so_far first byte pushed =
    so_far ∙ ap (λ (xs : List ℕ). bs ++ as_bytes xs) first ∙ sym (append_assoc bs (c % 256 ∷ []) (as_bytes (decode_all ds))) ∙ ap (λ (x : ℕ). (bs ++ x ∷ []) ++ as_bytes (decode_all ds)) (sym byte) ∙ ap (λ (xs : List ℕ). xs ++ as_bytes (decode_all ds)) (sym pushed)

pub bytes_end : (whole bs cs : List ℕ) → whole ≡ bs ++ as_bytes (decode_all cs) → decode_all cs ≡ [] → bs ≡ whole
bytes_end whole bs cs so_far none = sym (so_far ∙ ap (λ (xs : List ℕ). bs ++ as_bytes xs) none ∙ append-nil bs)

pub ruleset bytes_steps = (bytes_more, bytes_end)
