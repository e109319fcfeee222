-- Conditions that are judged at all rows before any is kept.
use Rattle.std.proofs.Common.{◌≡◌, ◌∙◌, ◌<◌, ℕ, zero, suc, Bool, true, false, List, [], ◌∷◌, Some, None, Ok, Err, length, map, drop, get_or, slice_index_or, append_assoc, ◌+◌, ◌++◌, refl, sym, ap, subst, arith}
use Rattle.std.specs.Prelude.{MatchResult}
use Rattle.span_value.proofs.Lists.{drop_read}
use denote.Ref.{Bor}
use Rattle.std.specs.List.{AllZip, Contains}
use Rattle.std.specs.declared.result.Result.{Result}
use Rattle.rayon.specs.Lists.{filter_by_mask}
use Rattle.span_expr.specs.declared.cell.Failure.{Failure}
use Rattle.span_expr.specs.declared.cell.Failure.TheVariants.{Fault, OutOfMemory}
use Rattle.span_expr.specs.declared.expr.Expr.{Expr}
use Rattle.span_query.specs.Rows.{Row, OrFault, ◌>>=◌, append_results, filter_rows, holds, keep_if}
use Rattle.span_query.proofs.Results.{append_results-none}
use Rattle.span_conditions.specs.Answers.{Gives}
use Rattle.span_rows.specs.LentRows.{lent_rows}

module _ (condition : Expr) where
  abbrev pub IsMark : Row → Bool → Type 0
  IsMark row met = holds condition row ≡ Some met

  kept_if : (row : Row) (met : Bool) (rows : List Row) (marks : List Bool)
      → append_results (Some (keep_if row met)) (Some (filter_by_mask rows marks)) ≡ Some (filter_by_mask (row ∷ rows) (met ∷ marks))
  kept_if row true rows marks = refl
  kept_if row false rows marks = refl

  -- the rows whose mark is true are those at which the condition is TRUE
  pub marked : (rows : List Row) (marks : List Bool) → AllZip IsMark rows marks → filter_rows condition rows ≡ Some (filter_by_mask rows marks)
  marked [] [] all = refl
  marked [] (met ∷ marks) all = absurd all
  marked (row ∷ rows) [] all = absurd all
  marked (row ∷ rows) (met ∷ marks) all =
      ap (λ (o : OrFault Bool). append_results (o >>= (λ b. Some (keep_if row b))) (filter_rows condition rows)) all.0
      ∙ ap (append_results (Some (keep_if row met))) (marked rows marks all.1)
      ∙ kept_if row met rows marks

  pub marks_length : (rows : List (Bor Row)) (marks : List Bool) → AllZip IsMark (lent_rows rows) marks → length marks ≡ length rows
  marks_length [] [] all = refl
  marks_length [] (met ∷ marks) all = absurd all
  marks_length (row ∷ rows) [] all = absurd all
  marks_length (row ∷ rows) (met ∷ marks) all = ap (λ (n : ℕ). suc n) (marks_length rows marks all.1)

  -- ---- what judging gives at each row

  abbrev pub IsJudged : Row → Result Bool Failure → Type 0
  IsJudged row found = Gives found (holds condition row)

  pub judged_rows : (rows : List (Bor Row)) (found : List (Result Bool Failure)) → AllZip (λ row r. IsJudged row.now r) rows found → AllZip IsJudged (lent_rows rows) found
  judged_rows [] [] all = tt
  judged_rows [] (r ∷ found) all = absurd all
  judged_rows (row ∷ rows) [] all = absurd all
  judged_rows (row ∷ rows) (r ∷ found) all = (all.0, judged_rows rows found all.1)

  pub all_marked : (rows : List Row) (marks : List Bool) → AllZip IsJudged rows (map Ok marks) → AllZip IsMark rows marks
  all_marked [] [] all = tt
  all_marked [] (met ∷ marks) all = absurd all
  all_marked (row ∷ rows) [] all = absurd all
  all_marked (row ∷ rows) (met ∷ marks) all = (all.0, all_marked rows marks all.1)

  -- an error at one of the rows is one of the condition at all of them
  pub judging_fails : (why : Failure) (rows : List Row) (found : List (Result Bool Failure)) → AllZip IsJudged rows found
      → Contains found (Err why) → Gives {A = List Row} (Err why) (filter_rows condition rows)
  judging_fails OutOfMemory rows found all has = tt {0}
  judging_fails Fault rows found all has = fault_at rows found all has.0 has.1 has.2
    where
      fault_at : (rows : List Row) (found : List (Result Bool Failure)) → AllZip IsJudged rows found → (k : ℕ) → k < length found
          → slice_index_or found k (Err Fault) ≡ Err Fault → filter_rows condition rows ≡ None
      fault_at [] [] all k below is = absurd (omega (arith, below))
      fault_at [] (r ∷ found) all k below is = absurd all
      fault_at (row ∷ rows) [] all k below is = absurd all
      fault_at (row ∷ rows) (r ∷ found) all zero below is =
          let none : holds condition row ≡ None = subst (λ (x : Result Bool Failure). Gives x (holds condition row)) is all.0 in
          ap (λ (o : OrFault Bool). append_results (o >>= (λ b. Some (keep_if row b))) (filter_rows condition rows)) none
      fault_at (row ∷ rows) (r ∷ found) all (suc k) below is =
          ap (append_results (holds condition row >>= (λ b. Some (keep_if row b)))) (fault_at rows found all.1 k (omega (arith, below)) is)
          ∙ append_results-none (holds condition row >>= (λ b. Some (keep_if row b)))

  -- the same, whatever the marks are in
  pub found_marks : {V : Type 0} (items : V → List Bool) (rows : List Row) (found : List (Result Bool Failure)) (v : Result V Failure) → AllZip IsJudged rows found
      → MatchResult v (λ made. (marks : List Bool) × (found ≡ map Ok marks) × (items made ≡ marks)) (λ why. Contains found (Err why))
      → MatchResult v (λ made. AllZip IsMark rows (items made)) (λ why. Gives {A = List Row} (Err why) (filter_rows condition rows))
  found_marks items rows found (Ok made) all gives =
      all_marked rows (items made) (subst (AllZip IsJudged rows) (gives.1 ∙ ap (map Ok) (sym gives.2)) all)
  found_marks items rows found (Err why) all gives = judging_fails why rows found all gives

-- ---- the rows whose mark is true, one after another

pub mask_step : (rows : List (Bor Row)) (marks : List Bool) (k : ℕ) (row : Bor Row) (met : Bool) → k < length rows → length marks ≡ length rows
    → row ≡ get_or rows k row → met ≡ get_or marks k met → (whole old new : List Row)
    → whole ≡ old ++ filter_by_mask (lent_rows (drop k rows)) (drop k marks) → new ≡ old ++ keep_if row.now met
    → whole ≡ new ++ filter_by_mask (lent_rows (drop (k + 1) rows)) (drop (k + 1) marks)
mask_step rows marks k row met below same is_row is_met whole old new so_far more =
    let rest : List Row = filter_by_mask (lent_rows (drop (k + 1) rows)) (drop (k + 1) marks) in
    so_far
    ∙ ap (λ (l : List (Bor Row)). old ++ filter_by_mask (lent_rows l) (drop k marks)) (drop_read rows k row below is_row)
    ∙ ap (λ (l : List Bool). old ++ filter_by_mask (row.now ∷ lent_rows (drop (k + 1) rows)) l) (drop_read marks k met (omega (arith, below, same)) is_met)
    ∙ ap (λ (l : List Row). old ++ l) (one_mask met)
    ∙ sym (append_assoc old (keep_if row.now met) rest)
    ∙ ap (λ (l : List Row). l ++ rest) (sym more)
  where
    one_mask : (b : Bool) → filter_by_mask (row.now ∷ lent_rows (drop (k + 1) rows)) (b ∷ drop (k + 1) marks)
        ≡ keep_if row.now b ++ filter_by_mask (lent_rows (drop (k + 1) rows)) (drop (k + 1) marks)
    one_mask true = refl
    one_mask false = refl
