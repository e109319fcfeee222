-- To pass over the front, and then cut off the end.
use Rattle.std.proofs.Common.{◌≡◌, refl, sym, ap, ◌∙◌, ℕ, ◌+◌, ◌-◌, min, List, Option, Some, None, take, drop, length, take_all, take-take, drop_of_length-le, arith, inl, inr}
use Rattle.std.specs.Prelude.{IfSome}
use Rattle.std.proofs.Math.Nat.{min-eq_left, min-eq_right}
use Rattle.std.proofs.lemmas.Bool.{cases_lt}
use Rattle.std.proofs.lemmas.List.{drop-take, take_rest}
use Rattle.span_query.specs.declared.query.Limit.{Limit}
use Rattle.span_query.specs.Meaning.{limit_rows}
use Rattle.span_query.specs.Rows.{Row}
use Rattle.span_sorting.specs.Orders.{take_first}

module _ {A : Type 0} where
  -- no more can be passed over than there is
  pass_over : (skip : ℕ) (xs : List A) → drop (min (length xs) skip) xs ≡ drop skip xs
  pass_over skip xs = elim (cases_lt (length xs) skip) [
    | inl beyond ↦ ap (λ n. drop n xs) (min-eq_left (omega arith)) ∙ drop_of_length-le xs (omega arith) ∙ sym (drop_of_length-le xs (omega arith))
    | inr within ↦ ap (λ n. drop n xs) (min-eq_right within)
  ]

  -- no more can be taken than there is
  take_most : (count : ℕ) (xs : List A) → take (min (length xs) count) xs ≡ take count xs
  take_most count xs = elim (cases_lt (length xs) count) [
    | inl beyond ↦ ap (λ n. take n xs) (min-eq_left (omega arith)) ∙ take_all (length xs) xs (omega arith) ∙ sym (take_all count xs (omega arith))
    | inr within ↦ ap (λ n. take n xs) (min-eq_right within)
  ]

  pub part_is : (rows skip : ℕ) (xs : List A)
      → take (min (length (take (length xs - min (length xs) skip) (drop (min (length xs) skip) xs))) rows) (take (length xs - min (length xs) skip) (drop (min (length xs) skip) xs))
      ≡ take rows (drop skip xs)
  part_is rows skip xs =
      take_most rows (take (length xs - min (length xs) skip) (drop (min (length xs) skip) xs))
      ∙ ap (take rows) (take_rest xs (min (length xs) skip) ∙ pass_over skip xs)

  -- the part is among the first items that it needs
  pub part_of_first : (rows skip : ℕ) (xs : List A) → take rows (drop skip (take (skip + rows) xs)) ≡ take rows (drop skip xs)
  part_of_first rows skip xs = ap (take rows) (drop-take skip rows xs) ∙ take-take rows rows (drop skip xs) (omega arith)

-- how many of the first rows a limit needs
abbrev pub IsNeededBy : Option Limit → ℕ → Type 0
IsNeededBy limit count = (l : Limit) × (limit ≡ Some l) × (count ≡ l.skip + l.rows)

-- where these are known, the others are not needed
pub limit_of_first : (limit : Option Limit) (count : Option ℕ) (rows : List Row) → IfSome count (IsNeededBy limit)
    → limit_rows limit (take_first count rows) ≡ limit_rows limit rows
limit_of_first limit None rows needed = refl
limit_of_first limit (Some n) rows needed =
    ap (λ (o : Option Limit). limit_rows o (take n rows)) needed.1
    ∙ ap (λ (m : ℕ). take needed.0.rows (drop needed.0.skip (take m rows))) needed.2
    ∙ part_of_first needed.0.rows needed.0.skip rows
    ∙ sym (ap (λ (o : Option Limit). limit_rows o rows) needed.1)
