-- Cells of texts and bytes: what was written is read, and only that.
use Rattle.std.proofs.Common.{◌≡◌, ◌≢◌, ◌⊎◌, ℕ, zero, suc, ◌+◌, ◌*◌, ◌/◌, ◌%◌, ◌<◌, ◌==◌, Bool, true, false, List, [], ◌∷◌, ◌++◌, Option, Some, None, if◌then◌else◌, refl, sym, ap, subst, ◌∙◌, arith, append_assoc, eqb-true, eq-eqb, inl, inr}
use Rattle.std.specs.Option.{option_map}
use Rattle.std.specs.Char.{digit_char}
use Rattle.std.specs.List.{All}
use Rattle.std.proofs.lemmas.List.{append-nil}
use Rattle.std.proofs.lemmas.Option.{same_Some}
use Rattle.std.proofs.lemmas.Bool.{cond-true, cond-false}
use Rattle.span_value.specs.Cells.{escaped, hex_pairs, unescaped, unescaped_after, half_byte, byte_of, decoded_hex, IsClean}

pub differ : (b q : ℕ) (v : Bool) → (b == q) ≡ v → b ≢ q → v ≡ false
differ b q true h n = absurd (n (eqb-true b q h))
differ b q false h n = refl

-- ---- backslashes

double_back : (bs : List ℕ) → escaped (92 ∷ bs) ≡ 92 ∷ 92 ∷ escaped bs
unfolding escaped
double_back bs = refl

double_other : (b : ℕ) (bs : List ℕ) → b ≢ 92 → escaped (b ∷ bs) ≡ b ∷ escaped bs
unfolding escaped
double_other b bs n = cond-false (b == 92) _ _ (differ b 92 (b == 92) refl n)

double_clean : (xs ys : List ℕ) → IsClean xs → escaped (xs ++ ys) ≡ xs ++ escaped ys
double_clean [] ys h = refl
double_clean (x ∷ xs) ys h = double_other x (xs ++ ys) (h 0 (omega arith)) ∙ ap (λ (w : List ℕ). x ∷ w) (double_clean xs ys (λ i l. h (suc i) (omega arith)))

double_nil : escaped [] ≡ []
unfolding escaped
double_nil = refl

-- a text without a backslash is unchanged by doubling
pub double_last : (xs : List ℕ) → IsClean xs → escaped xs ≡ xs
double_last xs h = ap escaped (sym (append-nil xs)) ∙ double_clean xs [] h ∙ ap (λ (w : List ℕ). xs ++ w) double_nil ∙ append-nil xs

-- the beginning of the doubled text, up to a backslash
pub double_step : (text out front tail rest : List ℕ) → out ++ escaped rest ≡ escaped text → rest ≡ front ++ (92 ∷ tail) → IsClean front
    → ((out ++ front) ++ (92 ∷ 92 ∷ [])) ++ escaped tail ≡ escaped text
double_step text out front tail rest h e clean =
    append_assoc (out ++ front) (92 ∷ 92 ∷ []) (escaped tail) ∙ append_assoc out front (92 ∷ 92 ∷ escaped tail)
    ∙ ap (λ (w : List ℕ). out ++ w) (ap (λ (w : List ℕ). front ++ w) (sym (double_back tail)) ∙ sym (double_clean front (92 ∷ tail) clean) ∙ ap escaped (sym e)) ∙ h

pub double_end : (text out rest : List ℕ) → out ++ escaped rest ≡ escaped text → IsClean rest → out ++ rest ≡ escaped text
double_end text out rest h clean = ap (λ (w : List ℕ). out ++ w) (sym (double_last rest clean)) ∙ h

abbrev put : List ℕ → Option (List ℕ) → Option (List ℕ)
put front o = option_map (λ w. front ++ w) o

half_other : (b : ℕ) (bs : List ℕ) → b ≢ 92 → unescaped (b ∷ bs) ≡ put (b ∷ []) (unescaped bs)
unfolding unescaped_after
half_other b bs n = cond-false (b == 92) _ _ (differ b 92 (b == 92) refl n)

half_pair : (bs : List ℕ) → unescaped (92 ∷ 92 ∷ bs) ≡ put (92 ∷ []) (unescaped bs)
unfolding unescaped_after
half_pair bs = refl

half_alone : (bs : List ℕ) → ((rest : List ℕ) → bs ≢ 92 ∷ rest) → unescaped (92 ∷ bs) ≡ None
unfolding unescaped_after
half_alone [] n = refl
half_alone (b ∷ bs) n = cond-false (b == 92) _ _ (differ b 92 (b == 92) refl (λ e. n bs (ap (λ (w : ℕ). w ∷ bs) e)))

put_put : (xs ys : List ℕ) (o : Option (List ℕ)) → put xs (put ys o) ≡ put (xs ++ ys) o
put_put xs ys None = refl
put_put xs ys (Some w) = ap Some (sym (append_assoc xs ys w))

put_nil : (o : Option (List ℕ)) → put [] o ≡ o
put_nil None = refl
put_nil (Some w) = refl

half_clean : (xs ys : List ℕ) → IsClean xs → unescaped (xs ++ ys) ≡ put xs (unescaped ys)
half_clean [] ys h = sym (put_nil (unescaped ys))
half_clean (x ∷ xs) ys h =
    half_other x (xs ++ ys) (h 0 (omega arith)) ∙ ap (λ o. put (x ∷ []) o) (half_clean xs ys (λ i l. h (suc i) (omega arith))) ∙ put_put (x ∷ []) xs (unescaped ys)

half_nil : unescaped [] ≡ Some []
unfolding unescaped_after
half_nil = refl

pub half_last : (xs : List ℕ) → IsClean xs → unescaped xs ≡ Some xs
half_last xs h = ap unescaped (sym (append-nil xs)) ∙ half_clean xs [] h ∙ ap (λ o. put xs o) half_nil ∙ ap Some (append-nil xs)

-- what was read so far, and what is left
abbrev pub IsHalvedFrom : List ℕ → List ℕ → List ℕ → Type 0
IsHalvedFrom text out rest = option_map (λ w. out ++ w) (unescaped rest) ≡ unescaped text

pub half_step : (text out front tail rest : List ℕ) → IsHalvedFrom text out rest → rest ≡ front ++ (92 ∷ 92 ∷ tail) → IsClean front → IsHalvedFrom text ((out ++ front) ++ (92 ∷ [])) tail
half_step text out front tail rest h e clean =
    sym (put_put (out ++ front) (92 ∷ []) (unescaped tail)) ∙ sym (put_put out front (put (92 ∷ []) (unescaped tail)))
    ∙ ap (λ o. put out o) (ap (λ o. put front o) (sym (half_pair tail)) ∙ sym (half_clean front (92 ∷ 92 ∷ tail) clean) ∙ ap unescaped (sym e)) ∙ h

pub half_none : (text out front tail rest : List ℕ) → IsHalvedFrom text out rest → rest ≡ front ++ (92 ∷ tail) → IsClean front → ((r : List ℕ) → tail ≢ 92 ∷ r) → unescaped text ≡ None
half_none text out front tail rest h e clean n =
    sym h ∙ ap (λ o. put out o) (ap unescaped e ∙ half_clean front (92 ∷ tail) clean ∙ ap (λ o. put front o) (half_alone tail n))

pub half_end : (text out rest : List ℕ) → IsHalvedFrom text out rest → IsClean rest → unescaped text ≡ Some (out ++ rest)
half_end text out rest h clean = sym h ∙ ap (λ o. put out o) (half_last rest clean)

-- what was doubled is read
pub halved_doubled : (bs : List ℕ) → unescaped (escaped bs) ≡ Some bs
halved_doubled [] = ap unescaped double_nil ∙ half_nil
halved_doubled (b ∷ bs) = halved_doubled_cons b bs (b == 92) refl (halved_doubled bs)
  where
    halved_doubled_cons : (b : ℕ) (bs : List ℕ) (v : Bool) → (b == 92) ≡ v → unescaped (escaped bs) ≡ Some bs → unescaped (escaped (b ∷ bs)) ≡ Some (b ∷ bs)
    halved_doubled_cons b bs true e h =
        let same : b ≡ 92 = eqb-true b 92 e in
        ap (λ (w : ℕ). unescaped (escaped (w ∷ bs))) same ∙ ap unescaped (double_back bs) ∙ half_pair (escaped bs) ∙ ap (λ o. put (92 ∷ []) o) h ∙ ap (λ (w : ℕ). Some (w ∷ bs)) (sym same)
    halved_doubled_cons b bs false e h =
        let n : b ≢ 92 = λ same. absurd (let t : (b == 92) ≡ true = eq-eqb b 92 same in cc) in
        ap unescaped (double_other b bs n) ∙ half_other b (escaped bs) n ∙ ap (λ o. put (b ∷ []) o) h

put_is : (front w : List ℕ) (o : Option (List ℕ)) → put front o ≡ Some w → (x : List ℕ) × (o ≡ Some x) × (front ++ x ≡ w)
put_is front w None e = absurd cc
put_is front w (Some x) e = (x, refl, same_Some (front ++ x) w e)

double_halved_after : (v : Bool) (bs w : List ℕ) → unescaped_after v bs ≡ Some w → escaped w ≡ (if v then 92 ∷ bs else bs)
unfolding unescaped_after
double_halved_after false [] w e = ap escaped (sym (same_Some [] w e)) ∙ double_nil
double_halved_after true [] w e = absurd cc
double_halved_after false (b ∷ bs) w e =
    elim (b == 92) as (λ v. (b == 92) ≡ v → escaped w ≡ b ∷ bs) [
      | true ↦ λ q. double_halved_after true bs w (sym (cond-true (b == 92) (unescaped_after true bs) (put (b ∷ []) (unescaped bs)) q) ∙ e) ∙ ap (λ (n : ℕ). n ∷ bs) (sym (eqb-true b 92 q))
      | false ↦ λ q.
          let p = put_is (b ∷ []) w (unescaped bs) (sym (cond-false (b == 92) (unescaped_after true bs) (put (b ∷ []) (unescaped bs)) q) ∙ e) in
          ap escaped (sym p.2) ∙ double_other b p.0 (λ same. absurd (let t : (b == 92) ≡ true = eq-eqb b 92 same in cc)) ∙ ap (λ (n : List ℕ). b ∷ n) (double_halved_after false bs p.0 p.1)
    ] refl
double_halved_after true (b ∷ bs) w e =
    elim (b == 92) as (λ v. (b == 92) ≡ v → escaped w ≡ 92 ∷ b ∷ bs) [
      | true ↦ λ q.
          let p = put_is (92 ∷ []) w (unescaped bs) (sym (cond-true (b == 92) (put (92 ∷ []) (unescaped bs)) None q) ∙ e) in
          ap escaped (sym p.2) ∙ double_back p.0 ∙ ap (λ (n : List ℕ). 92 ∷ 92 ∷ n) (double_halved_after false bs p.0 p.1) ∙ ap (λ (n : ℕ). 92 ∷ n ∷ bs) (sym (eqb-true b 92 q))
      | false ↦ λ q. absurd (let t : None ≡ Some w = sym (cond-false (b == 92) (put (92 ∷ []) (unescaped bs)) None q) ∙ e in cc)
    ] refl

-- what is read was doubled
pub doubled_halved : (bs w : List ℕ) → unescaped bs ≡ Some w → escaped w ≡ bs
doubled_halved bs w e = double_halved_after false bs w e

pub halved_is : (text v w : List ℕ) → unescaped text ≡ Some v → escaped w ≡ text → v ≡ w
halved_is text v w e h = same_Some v w (sym e ∙ ap unescaped (sym h) ∙ halved_doubled w)

pub halved_is_not : (text w : List ℕ) → unescaped text ≡ None → escaped w ≡ text → ⊥
halved_is_not text w e h = let t : None ≡ Some w = sym e ∙ ap unescaped (sym h) ∙ halved_doubled w in cc

-- ---- hexadecimal digits

hex_cons : (b : ℕ) (bs : List ℕ) → hex_pairs (b ∷ bs) ≡ digit_char (b / 16) ∷ digit_char (b % 16) ∷ hex_pairs bs
unfolding hex_pairs
hex_cons b bs = refl

pub hex_nil : hex_pairs [] ≡ []
unfolding hex_pairs
hex_nil = refl

pub hex_step : (goal out new : List ℕ) (b : ℕ) (rest bs : List ℕ) → out ++ hex_pairs rest ≡ goal → rest ≡ b ∷ bs → new ≡ out ++ (digit_char (b / 16) ∷ digit_char (b % 16) ∷ []) → new ++ hex_pairs bs ≡ goal
hex_step goal out new b rest bs h e n =
    ap (λ (w : List ℕ). w ++ hex_pairs bs) n ∙ append_assoc out (digit_char (b / 16) ∷ digit_char (b % 16) ∷ []) (hex_pairs bs) ∙ ap (λ (w : List ℕ). out ++ w) (sym (hex_cons b bs) ∙ ap hex_pairs (sym e)) ∙ h

pub two_pushed : (new first out a b : List ℕ) (x y : ℕ) → new ≡ first ++ b → first ≡ out ++ a → a ≡ x ∷ [] → b ≡ y ∷ [] → new ≡ out ++ (x ∷ y ∷ [])
two_pushed new first out a b x y p q r s = p ∙ ap (λ (w : List ℕ). w ++ b) (q ∙ ap (λ (w : List ℕ). out ++ w) r) ∙ ap (λ (w : List ℕ). (out ++ (x ∷ [])) ++ w) s ∙ append_assoc out (x ∷ []) (y ∷ [])

pub hex_end : (goal out bs : List ℕ) → out ++ hex_pairs bs ≡ goal → bs ≡ [] → out ≡ goal
hex_end goal out bs h e = sym (append-nil out) ∙ ap (λ (w : List ℕ). out ++ w) (sym hex_nil ∙ ap hex_pairs (sym e)) ∙ h

unhexed_nil : decoded_hex [] ≡ Some []
unfolding decoded_hex
unhexed_nil = refl

unhexed_cons : (h l : ℕ) (bs : List ℕ) → decoded_hex (h ∷ l ∷ bs) ≡ byte_of (half_byte h) (half_byte l) (decoded_hex bs)
unfolding decoded_hex
unhexed_cons h l bs = refl

unhexed_one : (h : ℕ) → decoded_hex (h ∷ []) ≡ None
unfolding decoded_hex
unhexed_one h = refl

abbrev pub IsUnhexedFrom : List ℕ → List ℕ → List ℕ → Type 0
IsUnhexedFrom digits out rest = option_map (λ w. out ++ w) (decoded_hex rest) ≡ decoded_hex digits

byte_some : (high low : ℕ) (o : Option (List ℕ)) → byte_of (Some high) (Some low) o ≡ put ((high * 16 + low) ∷ []) o
byte_some high low None = refl
byte_some high low (Some w) = refl

pub unhexed_step : (digits out rest tail : List ℕ) (h l a b byte : ℕ) → IsUnhexedFrom digits out rest → rest ≡ h ∷ l ∷ tail → half_byte h ≡ Some a → half_byte l ≡ Some b → byte ≡ a * 16 + b
    → IsUnhexedFrom digits (out ++ (byte ∷ [])) tail
unhexed_step digits out rest tail h l a b byte i e p q r =
    sym (put_put out (byte ∷ []) (decoded_hex tail)) ∙ ap (λ (w : ℕ). put out (put (w ∷ []) (decoded_hex tail))) r
    ∙ ap (λ o. put out o) (sym (byte_some a b (decoded_hex tail)) ∙ ap (λ o. byte_of o (Some b) (decoded_hex tail)) (sym p) ∙ ap (λ o. byte_of (half_byte h) o (decoded_hex tail)) (sym q) ∙ sym (unhexed_cons h l tail) ∙ ap decoded_hex (sym e)) ∙ i

byte_none : (x y : Option ℕ) (o : Option (List ℕ)) → (x ≡ None) ⊎ (y ≡ None) → byte_of x y o ≡ None
byte_none None y o h = refl
byte_none (Some a) None o h = refl
byte_none (Some a) (Some b) o (inl h) = absurd cc
byte_none (Some a) (Some b) o (inr h) = absurd cc

pub unhexed_bad : (digits out rest tail : List ℕ) (h l : ℕ) → IsUnhexedFrom digits out rest → rest ≡ h ∷ l ∷ tail → (half_byte h ≡ None) ⊎ (half_byte l ≡ None) → decoded_hex digits ≡ None
unhexed_bad digits out rest tail h l i e n = sym i ∙ ap (λ o. put out o) (ap decoded_hex e ∙ unhexed_cons h l tail ∙ byte_none (half_byte h) (half_byte l) (decoded_hex tail) n)

pub unhexed_odd : (digits out rest : List ℕ) (h : ℕ) → IsUnhexedFrom digits out rest → rest ≡ h ∷ [] → decoded_hex digits ≡ None
unhexed_odd digits out rest h i e = sym i ∙ ap (λ o. put out o) (ap decoded_hex e ∙ unhexed_one h)

pub unhexed_end : (digits out rest : List ℕ) → IsUnhexedFrom digits out rest → rest ≡ [] → decoded_hex digits ≡ Some out
unhexed_end digits out rest i e = sym i ∙ ap (λ o. put out o) (ap decoded_hex e ∙ unhexed_nil) ∙ ap (λ (w : List ℕ). Some w) (append-nil out)

-- what was written is read
half_of_digit : (d : ℕ) → d < 16 → half_byte (digit_char d) ≡ Some d
unfolding half_byte
half_of_digit d h = grind arith

digit_of_half : (c d : ℕ) → half_byte c ≡ Some d → (digit_char d ≡ c) × (d < 16)
unfolding half_byte
digit_of_half c d h = (grind arith, grind arith)

pub unhexed_hexed : (bs : List ℕ) → All (λ b. b < 256) bs → decoded_hex (hex_pairs bs) ≡ Some bs
unhexed_hexed [] h = ap decoded_hex hex_nil ∙ unhexed_nil
unhexed_hexed (b ∷ bs) h =
    let small : b < 256 = h 0 0 (omega arith) in
    ap decoded_hex (hex_cons b bs) ∙ unhexed_cons (digit_char (b / 16)) (digit_char (b % 16)) (hex_pairs bs)
    ∙ ap (λ o. byte_of o (half_byte (digit_char (b % 16))) (decoded_hex (hex_pairs bs))) (half_of_digit (b / 16) (omega arith))
    ∙ ap (λ o. byte_of (Some (b / 16)) o (decoded_hex (hex_pairs bs))) (half_of_digit (b % 16) (omega arith))
    ∙ ap (λ o. byte_of (Some (b / 16)) (Some (b % 16)) o) (unhexed_hexed bs (λ k d l. h (suc k) d (omega arith)))
    ∙ ap (λ (n : ℕ). Some (n ∷ bs)) (omega arith)

byte_is : (x y : Option ℕ) (o : Option (List ℕ)) (w : List ℕ) → byte_of x y o ≡ Some w → (a : ℕ) × (b : ℕ) × (v : List ℕ) × (x ≡ Some a) × (y ≡ Some b) × (o ≡ Some v) × ((a * 16 + b) ∷ v ≡ w)
byte_is None y o w e = absurd cc
byte_is (Some a) None o w e = absurd cc
byte_is (Some a) (Some b) None w e = absurd cc
byte_is (Some a) (Some b) (Some v) w e = (a, b, v, refl, refl, refl, same_Some ((a * 16 + b) ∷ v) w e)

abbrev IsHexOf : List ℕ → List ℕ → Type 0
IsHexOf cs bs = (hex_pairs bs ≡ cs) × All (λ b. b < 256) bs

hexed_cons : (b : ℕ) (bs cs : List ℕ) → b < 256 → IsHexOf cs bs → IsHexOf (digit_char (b / 16) ∷ digit_char (b % 16) ∷ cs) (b ∷ bs)
hexed_cons b bs cs small h = (hex_cons b bs ∙ ap (λ (w : List ℕ). digit_char (b / 16) ∷ digit_char (b % 16) ∷ w) h.0, all)
  where
    all : All (λ b. b < 256) (b ∷ bs)
    all zero d l = small
    all (suc k) d l = h.1 k d (omega arith)

pub hexed_unhexed : (cs bs : List ℕ) → decoded_hex cs ≡ Some bs → (hex_pairs bs ≡ cs) × All (λ b. b < 256) bs
hexed_unhexed [] bs e =
    let P : List ℕ → Type 0 = λ w. IsHexOf [] w in
    subst P (same_Some [] bs (sym unhexed_nil ∙ e)) (hex_nil, λ k d l. absurd (omega arith))
hexed_unhexed (h ∷ []) bs e = absurd (let n : decoded_hex (h ∷ []) ≡ None = unhexed_one h in cc)
hexed_unhexed (h ∷ l ∷ cs) bs e =
    let p = byte_is (half_byte h) (half_byte l) (decoded_hex cs) bs (sym (unhexed_cons h l cs) ∙ e) in
    let high = digit_of_half h p.0 p.3 in
    let low = digit_of_half l p.1 p.4 in
    let hs : p.0 < 16 = high.1 in
    let ls : p.1 < 16 = low.1 in
    let n = p.0 * 16 + p.1 in
    let top : digit_char (n / 16) ≡ h = ap digit_char (let t : n / 16 ≡ p.0 = omega arith in t) ∙ high.0 in
    let rest : digit_char (n % 16) ≡ l = ap digit_char (let t : n % 16 ≡ p.1 = omega arith in t) ∙ low.0 in
    let made : IsHexOf (digit_char (n / 16) ∷ digit_char (n % 16) ∷ cs) (n ∷ p.2) = hexed_cons n p.2 cs (omega arith) (hexed_unhexed cs p.2 p.5) in
    let P : List ℕ → Type 0 = λ w. IsHexOf (h ∷ l ∷ cs) w in
    subst P p.6 (made.0 ∙ ap (λ (w : ℕ). w ∷ digit_char (n % 16) ∷ cs) top ∙ ap (λ (w : ℕ). h ∷ w ∷ cs) rest, made.1)

pub unhexed_is : (digits v w : List ℕ) → decoded_hex digits ≡ Some v → All (λ b. b < 256) w → hex_pairs w ≡ digits → v ≡ w
unhexed_is digits v w e all h = same_Some v w (sym e ∙ ap decoded_hex (sym h) ∙ unhexed_hexed w all)

pub unhexed_is_not : (digits w : List ℕ) → decoded_hex digits ≡ None → All (λ b. b < 256) w → hex_pairs w ≡ digits → ⊥
unhexed_is_not digits w e all h = let t : None ≡ Some w = sym e ∙ ap decoded_hex (sym h) ∙ unhexed_hexed w all in cc
