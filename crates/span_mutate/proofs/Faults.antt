-- Apply has the faults of mutations alone.
use Rattle.std.proofs.Common.{◌≡◌, ◌∙◌, Bool, true, false, cond, List, [], ◌∷◌, Option, Some, None, Result, Ok, Err, refl, ap, subst}
use Rattle.std.specs.List.{AllByRecursion}
use Rattle.span_value.specs.declared.refusal.Refusal.{Refusal}
use Rattle.span_value.specs.Results.{first_cause, and_then}
use Rattle.span_schema.specs.declared.table.Table.{Table}
use Rattle.span_mutate.specs.declared.mutation.CheckedMutation.{CheckedMutation}
use Rattle.span_mutate.specs.declared.row.TableRow.{TableRow}
use Rattle.span_mutate.specs.Database.{unless}
use Rattle.span_mutate.specs.Rows.{row_at}
use Rattle.span_mutate.specs.Database.{causes, changed, apply_one, apply}
use Rattle.span_mutate.specs.Faults.{is_mutation_fault}

first_fault : (cs : List (Bool × Refusal)) (why : Refusal) → AllByRecursion (λ (c : Bool × Refusal). is_mutation_fault c.1 ≡ true) cs → first_cause cs ≡ Some why → is_mutation_fault why ≡ true
first_fault [] why all e = absurd (let q : None ≡ Some why = e in cc)
first_fault (c ∷ cs) why all e = by c.0 e (first_fault cs why all.1)
  where
    by : (b : Bool) → cond b (Some c.1) (first_cause cs) ≡ Some why → (first_cause cs ≡ Some why → is_mutation_fault why ≡ true) → is_mutation_fault why ≡ true
    by true is later = (let q : c.1 ≡ why = cc in subst (λ (r : Refusal). is_mutation_fault r ≡ true) q all.0)
    by false is later = later is

one_fault : (tables : List Table) (db : List TableRow) (m : CheckedMutation) (why : Refusal) → apply_one tables db m ≡ Err why → is_mutation_fault why ≡ true
one_fault tables db m why e = by (first_cause (causes tables db m (row_at m.table m.key db))) refl e
  where
    by : (o : Option Refusal) → first_cause (causes tables db m (row_at m.table m.key db)) ≡ o → unless o (changed tables db m (row_at m.table m.key db)) ≡ Err why → is_mutation_fault why ≡ true
    by None is no_fault = absurd (let q : Ok (changed tables db m (row_at m.table m.key db)) ≡ Err why = no_fault in cc)
    by (Some first) is fault =
        let q : first ≡ why = cc in
        first_fault (causes tables db m (row_at m.table m.key db)) why (refl, (refl, (refl, (refl, (refl, tt))))) (is ∙ ap Some q)

pub faults_are_named : (tables : List Table) (db : List TableRow) (ms : List CheckedMutation) (why : Refusal) → apply tables db ms ≡ Err why → is_mutation_fault why ≡ true
faults_are_named tables db [] why e = absurd (let q : Ok db ≡ Err why = e in cc)
faults_are_named tables db (m ∷ ms) why e = by (apply_one tables db m) refl e (λ next. faults_are_named tables next ms why)
  where
    by : (r : Result (List TableRow) Refusal) → apply_one tables db m ≡ r → and_then r (λ next. apply tables next ms) ≡ Err why → ((next : List TableRow) → apply tables next ms ≡ Err why → is_mutation_fault why ≡ true) → is_mutation_fault why ≡ true
    by (Ok next) is fault later = later next fault
    by (Err first) is fault later = one_fault tables db m why (is ∙ fault)
