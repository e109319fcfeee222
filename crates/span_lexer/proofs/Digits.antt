-- Reading a text, character by character.
use Rattle.std.proofs.Common.{◌≡◌, ◌∙◌, sym, refl, ap, ℕ, List, [], ◌∷◌, ◌++◌, ◌+◌, ◌-◌, ◌*◌, length, chars, arith, Option, Some, None}
use Rattle.std.specs.Char.{encode_utf8}
use Rattle.std.specs.Str.{IsUtf8}
use Rattle.std.proofs.lemmas.List.{append-nil, nil_from_length, take_at, length_push}
use Rattle.std.proofs.lemmas.Str.{chars-nil, chars_past_char, encodes-chars, encodes-append, encodes_same}
use Rattle.span_lexer.specs.LiteralValues.{before_last, digit, two_digits, four_digits}

pub nothing : (bs : List ℕ) → length bs ≡ 0 → chars bs ≡ []
nothing bs none = ap chars (nil_from_length bs none) ∙ chars-nil

pub ruleset reading_steps = (chars_past_char, nothing)

-- ---- the last character

with_last : (bs front : List ℕ) (c : ℕ) → IsUtf8 bs → IsUtf8 front → bs ≡ front ++ encode_utf8 c → chars bs ≡ chars front ++ c ∷ []
with_last bs front c whole part is =
    encodes_same (chars bs) (chars front ++ c ∷ [])
    (encodes-chars bs whole ∙ is ∙ sym (encodes-append (chars front) (c ∷ []) ∙ ap (λ (xs : List ℕ). xs ++ (encode_utf8 c ++ [])) (encodes-chars front part) ∙ ap (λ (xs : List ℕ). front ++ xs) (append-nil (encode_utf8 c))))

pub without_last : (xs : List ℕ) (c : ℕ) → xs ≡ before_last (xs ++ c ∷ [])
without_last xs c = sym (take_at xs (c ∷ []) (length (xs ++ c ∷ []) - 1) (omega (arith, length_push xs c)))

pub before_one : (bs front : List ℕ) (c : ℕ) → IsUtf8 bs → IsUtf8 front → bs ≡ front ++ encode_utf8 c → chars front ≡ before_last (chars bs)
before_one bs front c whole part is = without_last (chars front) c ∙ ap before_last (sym (with_last bs front c whole part is))

pub before_none : (bs : List ℕ) → length bs ≡ 0 → chars bs ≡ before_last (chars bs)
before_none bs none = nothing bs none ∙ ap before_last (sym (nothing bs none))

pub ruleset last_steps = (before_one, before_none)

-- ---- digits

pub no_digit : (cs : List ℕ) → cs ≡ [] → two_digits cs ≡ None
unfolding two_digits
no_digit cs none = ap two_digits none

pub one_digit : (cs : List ℕ) (h : ℕ) (ds : List ℕ) → cs ≡ h ∷ ds → ds ≡ [] → two_digits cs ≡ None
unfolding two_digits
one_digit cs h ds first none = ap two_digits (first ∙ ap (λ (xs : List ℕ). h ∷ xs) none)

pub both_digits : (cs : List ℕ) (h : ℕ) (ds : List ℕ) (l : ℕ) (es : List ℕ) (a b : ℕ) → cs ≡ h ∷ ds → ds ≡ l ∷ es → a ≡ digit h → b ≡ digit l → two_digits cs ≡ Some (a * 16 + b, es)
unfolding two_digits
both_digits cs h ds l es a b first second high low = ap two_digits (first ∙ ap (λ (xs : List ℕ). h ∷ xs) second) ∙ ap (λ (n : ℕ). Some (n, es)) (cc (high, low))

pub ruleset digit_steps = (no_digit, one_digit, both_digits)

-- the rest after two digits, or fewer
abbrev two_more : ℕ → Option (ℕ × List ℕ) → Option (ℕ × List ℕ)
two_more n None = None
two_more n (Some p) = Some (n * 256 + p.0, p.1)

abbrev by_pairs : Option (ℕ × List ℕ) → Option (ℕ × List ℕ)
by_pairs None = None
by_pairs (Some p) = two_more p.0 (two_digits p.1)

four_by_pairs : (cs : List ℕ) → four_digits cs ≡ by_pairs (two_digits cs)
unfolding two_digits four_digits
four_by_pairs [] = refl
four_by_pairs (a ∷ []) = refl
four_by_pairs (a ∷ b ∷ []) = refl
four_by_pairs (a ∷ b ∷ c ∷ []) = refl
four_by_pairs (a ∷ b ∷ c ∷ d ∷ cs) = ap (λ (n : ℕ). Some (n, cs)) (omega arith)

pub no_pair : (cs : List ℕ) → two_digits cs ≡ None → four_digits cs ≡ None
no_pair cs none = four_by_pairs cs ∙ ap by_pairs none

pub one_pair : (cs : List ℕ) (n : ℕ) (ds : List ℕ) → two_digits cs ≡ Some (n, ds) → two_digits ds ≡ None → four_digits cs ≡ None
one_pair cs n ds first none = four_by_pairs cs ∙ ap by_pairs first ∙ ap (two_more n) none

pub both_pairs : (cs : List ℕ) (n : ℕ) (ds : List ℕ) (m : ℕ) (es : List ℕ) → two_digits cs ≡ Some (n, ds) → two_digits ds ≡ Some (m, es) → four_digits cs ≡ Some (n * 256 + m, es)
both_pairs cs n ds m es first second = four_by_pairs cs ∙ ap by_pairs first ∙ ap (two_more n) second

pub ruleset pair_steps = (no_pair, one_pair, both_pairs)
