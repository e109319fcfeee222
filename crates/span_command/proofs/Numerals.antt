-- Numbers as the library reads them and as they are written: the same where no plus and no zero begins them.
use Rattle.std.proofs.Common.{◌≡◌, ℕ, zero, suc, ◌^◌, ◌<◌, true, List, get_or, length, drop, Result, Ok, sym, ap, ◌∙◌, subst, arith, inl, inr}
use Rattle.std.specs.Fmt.{decimal}
use Rattle.std.specs.Str.Parse.{ParsesUnsigned, IsNumeral, digits_value, without_leading_plus}
use Rattle.std.proofs.lemmas.Str.Parse.{without_leading_plus_none, without_leading_plus_plus}
use Rattle.std.proofs.lemmas.Result.{OkIff-at_ok}
use Rattle.std.proofs.lemmas.List.{length-drop}
use Rattle.std.proofs.lemmas.Bool.{cases_eq}
use Rattle.std.proofs.lemmas.Bool.Decides.{nat_tests}
use Rattle.std.proofs.lemmas.Fmt.{decimal-digits_value, decimal_digit, first_decimal}
use Rattle.span_value.proofs.IntCells.{model}
use Rattle.span_command.specs.Words.{IsNumber, begins_plainly}

no_plus : (bs : List ℕ) → begins_plainly bs ≡ true → get_or bs 0 0 ≡ 43 → length bs < 2
no_plus bs e h = grind (arith, nat_tests)

no_zero : (bs : List ℕ) → begins_plainly bs ≡ true → get_or bs 0 0 ≡ 48 → length bs < 2
no_zero bs e h = grind (arith, nat_tests)

-- what the library reads of such a text is the number that it writes
pub plain_read : {E : Type 0} (bs : List ℕ) (n : ℕ) (r : Result ℕ E) → ParsesUnsigned 64 10 bs r → r ≡ Ok n → begins_plainly bs ≡ true → IsNumber bs n
plain_read bs n r parses e plain =
    let p = OkIff-at_ok r (IsNumeral 10 (without_leading_plus bs) × (digits_value 10 (without_leading_plus bs) < 2 ^ 64)) (digits_value 10 (without_leading_plus bs)) n parses e in
    elim (cases_eq (get_or bs 0 0) 43) [
      | inl plus ↦ (let some : 0 < length (drop 1 bs) = subst (λ (w : List ℕ). 0 < length w) (without_leading_plus_plus bs plus) p.0.0.0 in
          absurd (omega (arith, some, length-drop 1 bs, no_plus bs plain plus)))
      | inr other ↦ (let same = without_leading_plus_none bs other in
          let numeral : IsNumeral 10 bs = subst (IsNumeral 10) same p.0.0 in
          let small : digits_value 10 bs < 2 ^ 64 = subst (λ (w : List ℕ). digits_value 10 w < 2 ^ 64) same p.0.1 in
          let value : n ≡ digits_value 10 bs = p.1 ∙ ap (digits_value 10) same in
          (omega (arith, value, small), sym (ap decimal value ∙ decimal-digits_value model bs numeral.1 numeral.0 (λ z. omega (arith, numeral.0, no_zero bs plain z)) small)))
    ]

-- a number is written so
pub decimal_begins : (n : ℕ) → n < 2 ^ 64 → begins_plainly (decimal n) ≡ true
decimal_begins zero small = ap begins_plainly (decimal_digit 0 (omega arith))
decimal_begins (suc m) small =
    let first : 48 < get_or (decimal (suc m)) 0 0 = first_decimal (suc m) (omega arith) small in
    grind (arith, nat_tests, first)
