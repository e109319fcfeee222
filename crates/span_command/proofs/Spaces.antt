-- Words split by spaces are read in one way.
use Rattle.std.proofs.Common.{◌≡◌, ◌≢◌, ◌∙◌, ◌<◌, ◌^◌, ◌+◌, ℕ, zero, suc, List, [], ◌∷◌, refl, sym, ap, map, length, get_or, arith}
use Rattle.std.specs.Fmt.{decimal}
use Rattle.std.specs.Int.Digits.{digits_of}
use Rattle.std.proofs.lemmas.Fmt.{decimal_nonempty, decimal-digits_of, decimal_digit}
use Rattle.span_command.specs.Words.{HasNoSpace, IsWord, IsNumber, AreTwo, AreThree, spaced}

following : (b : ℕ) (word : List ℕ) → HasNoSpace (b ∷ word) → HasNoSpace word
following b word h = λ i l. h (suc i) (omega arith)

-- the first space ends the word
pub same_parts : (w v r s : List ℕ) → HasNoSpace w → HasNoSpace v → spaced w r ≡ spaced v s → (w ≡ v) × (r ≡ s)
same_parts [] [] r s h k e = (refl, cc e)
same_parts [] (b ∷ v) r s h k e = absurd (k 0 (omega arith) (cc e))
same_parts (a ∷ w) [] r s h k e = absurd (h 0 (omega arith) (cc e))
same_parts (a ∷ w) (b ∷ v) r s h k e =
    let first : a ≡ b = cc e in
    let rest : spaced w r ≡ spaced v s = cc e in
    let same = same_parts w v r s (following a w h) (following b v k) rest in
    (cc (first, same.0), same.1)

space_at : (w r : List ℕ) → (length w < length (spaced w r)) × (get_or (spaced w r) (length w) 0 ≡ 32)
space_at [] r = (omega arith, refl)
space_at (b ∷ w) r =
    let further = space_at w r in
    (omega (arith, further.0), further.1)

-- words that are split have a space
pub parted : (words w r : List ℕ) → HasNoSpace words → words ≡ spaced w r → ⊥
parted words w r h e =
    let at = space_at w r in
    h (length w) (rw e at.0) (rw e at.1)

digits : (ds : List ℕ) → HasNoSpace (map (λ d. 48 + d) ds)
digits [] i l e = absurd (omega arith)
digits (d ∷ ds) zero l e = absurd (omega (arith, e))
digits (d ∷ ds) (suc i) l e = digits ds i (omega arith) e

no_space : (n : ℕ) → n < 2 ^ 64 → HasNoSpace (decimal n)
no_space zero f = rw (decimal_digit 0 (omega arith)) (digits (0 ∷ []))
no_space (suc n) f = rw (decimal-digits_of (suc n) (omega arith) f) (digits (digits_of 10 (suc n)))

-- a number is a word
pub decimal_word : (n : ℕ) → n < 2 ^ 64 → IsWord (decimal n)
decimal_word n f = ((λ e. absurd (omega (arith, decimal_nonempty n f, ap length e))), no_space n f)

-- words of which no first one is separate are not two numbers, nor three
pub whole_not_two : (words : List ℕ) → ((w r : List ℕ) → IsWord w → words ≢ spaced w r) → (a b : ℕ) → AreTwo words a b → ⊥
whole_not_two words h a b two = h (decimal a) (decimal b) (decimal_word a two.0) two.2

pub whole_not_three : (words : List ℕ) → ((w r : List ℕ) → IsWord w → words ≢ spaced w r) → (a b c : ℕ) → AreThree words a b c → ⊥
whole_not_three words h a b c three = h (decimal a) (spaced (decimal b) (decimal c)) (decimal_word a three.0) three.3

-- the words of two numbers, and of three
pub parts_of_two : (words w r : List ℕ) → IsWord w → words ≡ spaced w r → (a b : ℕ) → AreTwo words a b → IsNumber w a × IsNumber r b
parts_of_two words w r good e a b two =
    let same = same_parts w (decimal a) r (decimal b) good.1 (decimal_word a two.0).1 (sym e ∙ two.2) in
    ((two.0, same.0), (two.1, same.1))

pub parts_of_three : (words w r : List ℕ) → IsWord w → words ≡ spaced w r → (a b c : ℕ) → AreThree words a b c → IsNumber w a × AreTwo r b c
parts_of_three words w r good e a b c three =
    let same = same_parts w (decimal a) r (spaced (decimal b) (decimal c)) good.1 (decimal_word a three.0).1 (sym e ∙ three.3) in
    ((three.0, same.0), (three.1, three.2, same.1))
