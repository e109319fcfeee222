-- Cells of numbers: what was written is read; and no other cell is that of NULL.
use Rattle.std.proofs.Common.{◌≡◌, ◌≢◌, ◌==◌, eq-eqb, if◌then◌else◌, ℕ, zero, suc, ◌^◌, ◌<◌, ◌≤◌, ℤ, pos, negsuc, neg_ℤ, true, false, List, [], ◌∷◌, get_or, length, drop, Result, Ok, refl, sym, ap, ◌∙◌, subst, arith, w64, FitsSigned, inl, inr}
use Rattle.std.specs.Fmt.{decimal, signed_decimal}
use Rattle.std.specs.Str.Parse.{ParsesSigned, AllDigits, digits_value}
use Rattle.std.proofs.lemmas.Str.Parse.{digit_from_value, IsNumeralModel, numerals_by_value, tells_digits, parse_signed_plain, parse_signed_plus, parse_signed_minus}
use Rattle.std.proofs.lemmas.Result.{OkIff-at_ok}
use Rattle.std.proofs.lemmas.List.{length-drop}
use Rattle.std.proofs.lemmas.Bool.{cases_eq}
use Rattle.std.proofs.lemmas.Bool.Decides.{nat_tests}
use Rattle.std.proofs.lemmas.Grind.{get_or_after_one}
use Rattle.std.specs.Int.Signed.{mag}
use Rattle.std.proofs.lemmas.Fmt.{parse-signed_decimal, decimal_is_IsNumeral, decimal-digits_value, decimal_digit, first_decimal}
use Rattle.span_value.specs.declared.value.Value.{Value}
use Rattle.span_value.specs.declared.value.Value.TheVariants as value
use Rattle.span_value.specs.declared.value.Kind.{Kind}
use Rattle.span_value.specs.declared.value.Kind.TheVariants as kind
use Rattle.span_value.specs.Cells.{IsCell, escaped, hex_pairs, is_shortest}

mag_small : (n : ℤ) → FitsSigned w64 n → mag n < 2 ^ 63
mag_small (pos n) h = omega (arith, h)
mag_small (negsuc n) h = omega (arith, h)

pub int_parsed : {E : Type 0} (n : ℤ) (bs : List ℕ) (r : Result ℤ E) → FitsSigned w64 n → signed_decimal n ≡ bs → ParsesSigned w64 10 bs r → r ≡ Ok n
int_parsed n bs r fits e parses = parse-signed_decimal w64 n bs r fits (mag_small n fits) (sym e) parses

decimal_is_not : (n : ℕ) (bs : List ℕ) → n < 2 ^ 64 → decimal n ≡ 92 ∷ bs → ⊥
decimal_is_not n bs small e =
    let P : List ℕ → Type 0 = λ w. AllDigits 10 w in
    let digits : AllDigits 10 (92 ∷ bs) = subst P e (decimal_is_IsNumeral n small).0.1 in
    omega (arith, digit_from_value 92 digits.0)

heads_differ : (a b : ℕ) (xs ys : List ℕ) → a ≢ b → a ∷ xs ≡ b ∷ ys → ⊥
heads_differ a b xs ys n e = n (ap (λ (w : List ℕ). get_or w 0 0) e)

seconds_differ : (a b c d : ℕ) (xs ys : List ℕ) → b ≢ d → a ∷ b ∷ xs ≡ c ∷ d ∷ ys → ⊥
seconds_differ a b c d xs ys n e = n (ap (λ (w : List ℕ). get_or w 1 0) e)

int_is_not : (n : ℤ) → FitsSigned w64 n → signed_decimal n ≡ 92 ∷ 78 ∷ [] → ⊥
int_is_not (pos n) fits e = decimal_is_not n (78 ∷ []) (omega (arith, fits)) e
int_is_not (negsuc n) fits e = heads_differ 45 92 (decimal (suc n)) (78 ∷ []) (λ h. absurd (omega arith)) e

text_is_not : (w : List ℕ) → escaped w ≡ 92 ∷ 78 ∷ [] → ⊥
unfolding escaped
text_is_not [] e = cc
text_is_not (b ∷ w) e =
    elim (b == 92) as (λ v. (b == 92) ≡ v → (if v then 92 ∷ 92 ∷ escaped w else b ∷ escaped w) ≡ 92 ∷ 78 ∷ [] → ⊥) [
      | true ↦ λ q h. seconds_differ 92 92 92 78 (escaped w) [] (λ t. absurd (omega arith)) h
      | false ↦ λ q h. heads_differ b 92 (escaped w) (78 ∷ []) (λ t. absurd (let u : (b == 92) ≡ true = eq-eqb b 92 t in cc)) h
    ] refl e

-- the cell \N is that of NULL alone
pub null_alone : (k : Kind) (v : Value) → IsCell k v (92 ∷ 78 ∷ []) → value.Null ≡ v
null_alone k value.Null h = refl
null_alone kind.Bool (value.Bool true) h = absurd (heads_differ 116 92 (114 ∷ 117 ∷ 101 ∷ []) (78 ∷ []) (λ t. absurd (omega arith)) h.1)
null_alone kind.Bool (value.Bool false) h = absurd (heads_differ 102 92 (97 ∷ 108 ∷ 115 ∷ 101 ∷ []) (78 ∷ []) (λ t. absurd (omega arith)) h.1)
null_alone kind.Int (value.Int n) h = absurd (int_is_not n h.0 h.1)
null_alone kind.Str (value.Str w) h = absurd (text_is_not w h.1)
null_alone kind.Bytes (value.Bytes w) h = absurd (seconds_differ 92 120 92 78 (hex_pairs w) [] (λ t. absurd (omega arith)) h.1)
null_alone kind.Bool (value.Int n) h = absurd h.0
null_alone kind.Bool (value.Str n) h = absurd h.0
null_alone kind.Bool (value.Bytes n) h = absurd h.0
null_alone kind.Int (value.Bool n) h = absurd h.0
null_alone kind.Int (value.Str n) h = absurd h.0
null_alone kind.Int (value.Bytes n) h = absurd h.0
null_alone kind.Str (value.Bool n) h = absurd h.0
null_alone kind.Str (value.Int n) h = absurd h.0
null_alone kind.Str (value.Bytes n) h = absurd h.0
null_alone kind.Bytes (value.Bool n) h = absurd h.0
null_alone kind.Bytes (value.Int n) h = absurd h.0
null_alone kind.Bytes (value.Str n) h = absurd h.0

-- ---- numbers as the library reads them

pub model : IsNumeralModel (AllDigits 10) (digits_value 10)
model = numerals_by_value (AllDigits 10) tells_digits

pub ok_is : {E : Type 0} (x y : ℤ) → (let r : Result ℤ E = Ok x in r) ≡ Ok y → x ≡ y
ok_is x y e = cc

-- a shortest text, by its first bytes
record Shortest (bs : List ℕ) : Type 0 where
  pub plus : get_or bs 0 0 ≡ 43 → length bs < 2
  pub zero_first : get_or bs 0 0 ≡ 48 → length bs < 2
  pub minus_zero : get_or bs 0 0 ≡ 45 → get_or bs 1 0 ≡ 48 → length bs < 2

shortest : (bs : List ℕ) → is_shortest bs ≡ true → Shortest bs
shortest bs e = record {
  plus = λ h. grind (arith, nat_tests);
  zero_first = λ h. grind (arith, nat_tests);
  minus_zero = λ h g. grind (arith, nat_tests);
}

plain_is : (bs : List ℕ) → AllDigits 10 bs → 0 < length bs → digits_value 10 bs < 2 ^ 63 → Shortest bs → signed_decimal (pos (digits_value 10 bs)) ≡ bs
plain_is bs digits some small short = decimal-digits_value model bs digits some (λ z. omega (arith, short.zero_first z)) (omega arith)

minus_is : (ds : List ℕ) → AllDigits 10 ds → 0 < length ds → digits_value 10 ds ≤ 2 ^ 63 → get_or ds 0 0 ≢ 48 → signed_decimal (neg_ℤ (pos (digits_value 10 ds))) ≡ 45 ∷ ds
minus_is ds digits some small lead = by_value (digits_value 10 ds) refl
  where
    spelled : decimal (digits_value 10 ds) ≡ ds
    spelled = decimal-digits_value model ds digits some (λ z. absurd (lead z)) (omega arith)

    by_value : (n : ℕ) → digits_value 10 ds ≡ n → signed_decimal (neg_ℤ (pos n)) ≡ 45 ∷ ds
    by_value zero e = absurd (lead (ap (λ (w : List ℕ). get_or w 0 0) (sym spelled ∙ ap decimal e ∙ decimal_digit 0 (omega arith))))
    by_value (suc n) e = ap (λ (w : List ℕ). 45 ∷ w) (ap decimal (sym e) ∙ spelled)

minus_front : (bs : List ℕ) → get_or bs 0 0 ≡ 45 → bs ≡ 45 ∷ drop 1 bs
minus_front [] e = absurd (omega arith)
minus_front (b ∷ bs) e = ap (λ (n : ℕ). n ∷ bs) e

-- what the library reads of a shortest text is the number whose cell it is
pub shortest_read : {E : Type 0} (bs : List ℕ) (n : ℤ) (r : Result ℤ E) → ParsesSigned w64 10 bs r → r ≡ Ok n → is_shortest bs ≡ true → signed_decimal n ≡ bs
shortest_read bs n r parses e s =
    let short = shortest bs s in
    elim (cases_eq (get_or bs 0 0) 43) [
      | inl plus ↦ (let p = OkIff-at_ok r _ _ n (parse_signed_plus model w64 bs r parses plus) e in
          absurd (omega (arith, p.0.1, length-drop 1 bs, short.plus plus)))
      | inr other ↦ elim (cases_eq (get_or bs 0 0) 45) [
        | inl minus ↦ (let p = OkIff-at_ok r _ _ n (parse_signed_minus model w64 bs r parses minus) e in
            let lead : get_or (drop 1 bs) 0 0 ≢ 48 = λ z. omega (arith, p.0.1, length-drop 1 bs, short.minus_zero minus (sym (get_or_after_one bs 0 0) ∙ z)) in
            ap signed_decimal p.1 ∙ minus_is (drop 1 bs) p.0.0 p.0.1 p.0.2 lead ∙ sym (minus_front bs minus))
        | inr digit ↦ (let p = OkIff-at_ok r _ _ n (parse_signed_plain model w64 bs r parses other digit) e in
            ap signed_decimal p.1 ∙ plain_is bs p.0.0 p.0.1 p.0.2 short)
      ]
    ]

-- a number's cell is shortest
pub cell_shortest : (n : ℤ) (bs : List ℕ) → FitsSigned w64 n → signed_decimal n ≡ bs → is_shortest bs ≡ true
cell_shortest n bs fits e = ap is_shortest (sym e) ∙ each n fits
  where
    each : (n : ℤ) → FitsSigned w64 n → is_shortest (signed_decimal n) ≡ true
    each (pos zero) fits = ap is_shortest (decimal_digit 0 (omega arith))
    each (pos (suc m)) fits =
        let first : 48 < get_or (decimal (suc m)) 0 0 = first_decimal (suc m) (omega arith) (omega (arith, fits)) in
        grind (arith, nat_tests, first)
    each (negsuc m) fits =
        let first : 48 < get_or (decimal (suc m)) 0 0 = first_decimal (suc m) (omega arith) (omega (arith, fits)) in
        grind (arith, nat_tests, first)
