-- Steps along lists: tables that pass a test, and mutations one after another.
use Rattle.std.proofs.Common.{◌≡◌, ℕ, suc, ◌+◌, ◌-◌, ◌<◌, Bool, true, false, cond, List, [], ◌∷◌, ◌++◌, Result, Ok, Err, sym, ap, ◌∙◌, append_assoc, arith}
use Rattle.std.specs.List.{filter, range_with_len}
use Rattle.span_value.specs.declared.refusal.Refusal.{Refusal}
use Rattle.span_schema.specs.declared.table.Table.{Table}
use Rattle.span_mutate.specs.declared.mutation.CheckedMutation.{CheckedMutation}
use Rattle.span_mutate.specs.declared.row.TableRow.{TableRow}
use Rattle.span_value.specs.Results.{and_then}
use Rattle.span_mutate.specs.Database.{apply_one, apply}

range_next : (n i : ℕ) → i < n → range_with_len (i + 1) (n - i) ≡ (i + 1) ∷ range_with_len (i + 1 + 1) (n - (i + 1))
range_next n i h = let e : n - i ≡ suc (n - (i + 1)) = omega arith in ap (range_with_len (i + 1)) e

-- the next number passes the test
pub number_kept : (p : ℕ → Bool) (n i : ℕ) (found : List ℕ) → i < n → p (i + 1) ≡ true
    → (found ++ (i + 1) ∷ []) ++ filter p (range_with_len (i + 1 + 1) (n - (i + 1))) ≡ found ++ filter p (range_with_len (i + 1) (n - i))
number_kept p n i found h t =
    append_assoc found ((i + 1) ∷ []) _
    ∙ ap (λ (b : Bool). found ++ cond b ((i + 1) ∷ filter p (range_with_len (i + 1 + 1) (n - (i + 1)))) (filter p (range_with_len (i + 1 + 1) (n - (i + 1))))) (sym t)
    ∙ ap (λ (ns : List ℕ). found ++ filter p ns) (sym (range_next n i h))

-- or it doesn't
pub number_passed : (p : ℕ → Bool) (n i : ℕ) (found : List ℕ) → i < n → p (i + 1) ≡ false
    → found ++ filter p (range_with_len (i + 1 + 1) (n - (i + 1))) ≡ found ++ filter p (range_with_len (i + 1) (n - i))
number_passed p n i found h t =
    ap (λ (b : Bool). found ++ cond b ((i + 1) ∷ filter p (range_with_len (i + 1 + 1) (n - (i + 1)))) (filter p (range_with_len (i + 1 + 1) (n - (i + 1))))) (sym t)
    ∙ ap (λ (ns : List ℕ). found ++ filter p ns) (sym (range_next n i h))

-- a mutation has run
pub run_on : (tables : List Table) (db : List TableRow) (m : CheckedMutation) (ms : List CheckedMutation) (next : List TableRow) → apply_one tables db m ≡ Ok next → apply tables db (m ∷ ms) ≡ apply tables next ms
run_on tables db m ms next e = ap (λ (r : Result (List TableRow) Refusal). and_then r (λ next. apply tables next ms)) e

-- or has a fault
pub run_faults : (tables : List Table) (db : List TableRow) (m : CheckedMutation) (ms : List CheckedMutation) (why : Refusal) → apply_one tables db m ≡ Err why → apply tables db (m ∷ ms) ≡ Err why
run_faults tables db m ms why e = ap (λ (r : Result (List TableRow) Refusal). and_then r (λ next. apply tables next ms)) e
