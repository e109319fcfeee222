-- Apply works root by root.
use Rattle.std.proofs.Common.{◌≡◌, ℕ, Bool, true, false, List, [], ◌∷◌, Result, Ok, Err, length, refl, ap, ◌∙◌, arith}
use Rattle.std.proofs.lemmas.List.{length-take-le}
use Rattle.span_value.specs.declared.value.Value.{Value}
use Rattle.span_value.specs.declared.refusal.Refusal.{Refusal}
use Rattle.span_schema.specs.declared.table.Table.{Table}
use Rattle.span_schema.specs.Lineages.{MeetsRules}
use Rattle.span_schema.specs.Numbers.{root_of}
use Rattle.span_mutate.specs.declared.mutation.CheckedMutation.{CheckedMutation}
use Rattle.span_mutate.specs.declared.row.TableRow.{TableRow}
use Rattle.span_value.specs.Results.{and_then}
use Rattle.span_mutate.specs.Database.{apply_one, apply}
use Rattle.span_mutate.specs.Directories.{is_in_directory, directory, mutations_in, key_len, IsKeyed, root_row, IsDatabase, RunsTo, FirstFault, IsPutTogether, RootByRoot}
use Rattle.span_mutate.proofs.Begins.{taken_begins}
use Rattle.std.proofs.lemmas.Bool.{and_from, eq-eqb}
use Rattle.span_mutate.proofs.Families.{root_short}
use Rattle.span_mutate.proofs.Filters.{filter_yes, filter_no}
use Rattle.span_mutate.proofs.Local.{with_rows, step_same, step_apart, step_database}
use Rattle.span_mutate.proofs.Runs.{run_on}

-- one mutation more in front
runs_on : (tables : List Table) → MeetsRules tables → (db next after : List TableRow) (m : CheckedMutation) (ms : List CheckedMutation) → IsDatabase tables db → IsKeyed tables m.table m.key
    → apply_one tables db m ≡ Ok next → RunsTo tables next ms after → RunsTo tables db (m ∷ ms) after
runs_on tables rules db next after m ms is_db keyed e runs root is = cases (is_in_directory tables root m.table m.key) refl
  where
    cases : (b : Bool) → is_in_directory tables root m.table m.key ≡ b → apply tables (directory tables root db) (mutations_in tables root (m ∷ ms)) ≡ Ok (directory tables root after)
    cases true h =
        ap (apply tables (directory tables root db)) (filter_yes (λ (m : CheckedMutation). is_in_directory tables root m.table m.key) m ms h)
        ∙ run_on tables (directory tables root db) m (mutations_in tables root ms) (directory tables root next)
        (step_same tables rules root is.1 m keyed.0 h db ∙ ap (with_rows (directory tables root)) e)
        ∙ runs root is
    cases false h =
        ap (apply tables (directory tables root db)) (filter_no (λ (m : CheckedMutation). is_in_directory tables root m.table m.key) m ms h)
        ∙ ap (λ (rows : List TableRow). apply tables rows (mutations_in tables root ms)) (step_apart tables rules root is.1 m keyed h db is_db.0 next e)
        ∙ runs root is

-- the root row of a mutation is a root row, and has it in its directory
pub root_keyed : (tables : List Table) → MeetsRules tables → (n : ℕ) (key : List Value) → IsKeyed tables n key → length (root_row tables n key).key ≡ key_len tables (root_of tables n)
root_keyed tables rules n key keyed = length-take-le (key_len tables (root_of tables n)) key (omega (arith, root_short tables rules n keyed.0, keyed.1))

pub in_own : (tables : List Table) (n : ℕ) (key : List Value) → is_in_directory tables (root_row tables n key) n key ≡ true
in_own tables n key = and_from _ _ (eq-eqb (root_of tables n) (root_of tables n) refl) (taken_begins key (key_len tables (root_of tables n)))

faults_here : (tables : List Table) → MeetsRules tables → (db : List TableRow) (m : CheckedMutation) (ms : List CheckedMutation) (why : Refusal) → IsKeyed tables m.table m.key → apply_one tables db m ≡ Err why
    → FirstFault tables db (m ∷ ms) why
faults_here tables rules db m ms why keyed e = record {
  before = [];
  here = m;
  rest = ms;
  mutations = refl;
  reached = db;
  runs = λ root is. refl;
  fault = step_same tables rules (root_row tables m.table m.key) (root_keyed tables rules m.table m.key keyed) m keyed.0 (in_own tables m.table m.key) db
      ∙ ap (with_rows (directory tables (root_row tables m.table m.key))) e;
}

faults_on : (tables : List Table) → MeetsRules tables → (db next : List TableRow) (m : CheckedMutation) (ms : List CheckedMutation) (why : Refusal) → IsDatabase tables db → IsKeyed tables m.table m.key
    → apply_one tables db m ≡ Ok next → FirstFault tables next ms why → FirstFault tables db (m ∷ ms) why
faults_on tables rules db next m ms why is_db keyed e f = record {
  before = m ∷ f.before;
  here = f.here;
  rest = f.rest;
  mutations = ap (λ (l : List CheckedMutation). m ∷ l) f.mutations;
  reached = f.reached;
  runs = runs_on tables rules db next f.reached m f.before is_db keyed e f.runs;
  fault = f.fault;
}

-- the outcome of the rest, with one mutation more in front
outcome_on : (tables : List Table) → MeetsRules tables → (db next : List TableRow) (m : CheckedMutation) (ms : List CheckedMutation) → IsDatabase tables db → IsKeyed tables m.table m.key
    → apply_one tables db m ≡ Ok next → (r : Result (List TableRow) Refusal) → IsPutTogether tables next ms r → IsPutTogether tables db (m ∷ ms) r
outcome_on tables rules db next m ms is_db keyed e (Ok after) h = (h.0, runs_on tables rules db next after m ms is_db keyed e h.1)
outcome_on tables rules db next m ms is_db keyed e (Err why) h = faults_on tables rules db next m ms why is_db keyed e h

pub root_by_root : RootByRoot
root_by_root tables rules db [] is_db keyed = (is_db, λ root is. refl)
root_by_root tables rules db (m ∷ ms) is_db keyed =
    cases (apply_one tables db m) refl (λ next is_db. root_by_root tables rules next ms is_db keyed.1)
  where
    cases : (r : Result (List TableRow) Refusal) → apply_one tables db m ≡ r → ((next : List TableRow) → IsDatabase tables next → IsPutTogether tables next ms (apply tables next ms))
        → IsPutTogether tables db (m ∷ ms) (and_then r (λ next. apply tables next ms))
    cases (Ok next) e again = outcome_on tables rules db next m ms is_db keyed.0 e (apply tables next ms) (again next (step_database tables m keyed.0 db is_db next e))
    cases (Err why) e again = faults_here tables rules db m ms why keyed.0 e
