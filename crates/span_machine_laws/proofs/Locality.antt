-- What mutations make of a directory, they make of it alone.
use Rattle.std.proofs.Common.{◌≡◌, ℕ, true, false, Bool, List, [], ◌∷◌, ◌==◌, ◌≤◌, Result, Ok, Err, length, take, refl, ap, sym, ◌∙◌, subst, arith}
use Rattle.std.proofs.lemmas.List.{length-take-le}
use Rattle.std.specs.List.{filter}
use Rattle.span_value.specs.declared.value.Value.{Value}
use Rattle.span_value.specs.declared.refusal.Refusal.{Refusal}
use Rattle.span_schema.specs.declared.table.Table.{Table}
use Rattle.span_schema.specs.Lineages.{MeetsRules}
use Rattle.span_schema.specs.Numbers.{root_of}
use Rattle.span_mutate.specs.declared.mutation.CheckedMutation.{CheckedMutation}
use Rattle.span_mutate.specs.declared.row.TableRow.{TableRow}
use Rattle.span_value.specs.Results.{and_then}
use Rattle.span_mutate.specs.Database.{apply_one, apply}
use Rattle.span_mutate.specs.Rows.{begins}
use Rattle.span_mutate.specs.Directories.{Root, directory, key_len, IsKeyed, AreKeyed, IsDatabase, RunsTo, IsPutTogether}
use Rattle.span_mutate.proofs.Begins.{front_of_taken, front_within, same_key}
use Rattle.std.proofs.lemmas.Bool.{and_from, and_parts, eqb-true, eq-eqb}
use Rattle.span_mutate.proofs.ByRoots.{root_by_root, root_keyed, in_own}
use Rattle.span_mutate.proofs.Families.{root_is_table}
use Rattle.span_mutate.proofs.Filters.{filter_yes, filter_no}
use Rattle.span_mutate.proofs.Local.{with_rows, step_same, step_apart, step_database}
use Rattle.span_mutate.proofs.Runs.{run_on}
use Rattle.span_machine.specs.Machine.{root_at, is_at}

-- a root row, with a value for each key column of its table
abbrev pub IsRoot : List Table → Root → Type 0
IsRoot schema root = IsKeyed schema root.table root.key

pub is_at-itself : (schema : List Table) (m : CheckedMutation) → is_at schema (root_at schema m) m ≡ true
is_at-itself schema m = in_own schema m.table m.key

pub ok_same : {A : Type 0} {x y : A} → ◌≡◌ {A = Result A Refusal} (Ok x) (Ok y) → x ≡ y
ok_same e = cc

-- the outcome of the whole database, put together of the directories
put_together : (schema : List Table) → MeetsRules schema → (db out : List TableRow) (ms : List CheckedMutation) → IsDatabase schema db → AreKeyed schema ms → apply schema db ms ≡ Ok out
    → IsDatabase schema out × RunsTo schema db ms out
put_together schema rules db out ms is keyed e = subst (IsPutTogether schema db ms) e (root_by_root schema rules db ms is keyed)

-- the mutations of one directory make its rows, whatever the others do
pub apply-directory : (schema : List Table) → MeetsRules schema → (ms : List CheckedMutation) (db out : List TableRow) (root : Root) → IsRoot schema root → IsDatabase schema db → AreKeyed schema ms
    → apply schema db ms ≡ Ok out → apply schema (directory schema root db) (filter (is_at schema root) ms) ≡ Ok (directory schema root out)
apply-directory schema rules ms db out root is is_db keyed e = (put_together schema rules db out ms is_db keyed e).1 root is

-- what is left is a database again
pub apply-database : (schema : List Table) → MeetsRules schema → (ms : List CheckedMutation) (db out : List TableRow) → IsDatabase schema db → AreKeyed schema ms
    → apply schema db ms ≡ Ok out → IsDatabase schema out
apply-database schema rules ms db out is_db keyed e = (put_together schema rules db out ms is_db keyed e).0

-- ---- the root row of a mutation

pub root_is : (schema : List Table) → MeetsRules schema → (m : CheckedMutation) → IsKeyed schema m.table m.key → IsRoot schema (root_at schema m)
root_is schema rules m keyed = (root_is_table schema m.table keyed.0, root_keyed schema rules m.table m.key keyed)

front_is : (us ws : List Value) (k : ℕ) → begins us ws ≡ true → length us ≡ k → us ≡ take k ws
front_is us ws k e len =
    let within : length us ≤ length ws = front_within us ws e in
    let taken : length (take k ws) ≡ k = length-take-le k ws (omega (arith, len, within)) in
    same_key us (take k ws) (and_from (length us == length (take k ws)) (begins us (take k ws)) (eq-eqb (length us) (length (take k ws)) (len ∙ sym taken)) (front_of_taken us ws k e (omega (arith, len))))

-- a directory that has a mutation is the directory of its root row
pub own_root : (schema : List Table) (root : Root) (m : CheckedMutation) → IsRoot schema root → is_at schema root m ≡ true → root ≡ root_at schema m
own_root schema root m is at =
    let parts = and_parts (root_of schema m.table == root.table) (begins root.key m.key) at in
    let table : root_of schema m.table ≡ root.table = eqb-true (root_of schema m.table) root.table parts.0 in
    let key : root.key ≡ take (key_len schema (root_of schema m.table)) m.key =
    front_is root.key m.key (key_len schema (root_of schema m.table)) parts.1 (is.1 ∙ ap (key_len schema) (sym table)) in
    let whole : record { table = root.table; key = root.key } ≡ root_at schema m = cc in
    whole

-- ---- mutations that succeed in each directory

pub is_ok_of : {A B : Type 0} (r : Result A Refusal) (next : A → Result B Refusal) (b : B) → and_then r next ≡ Ok b → (a : A) × (r ≡ Ok a) × (next a ≡ Ok b)
is_ok_of (Ok a) next b e = (a, refl, e)
is_ok_of (Err why) next b e = cc

-- the mutations of each directory succeed
abbrev pub EachSucceeds : List Table → List CheckedMutation → List TableRow → Type 0
EachSucceeds schema ms db = (root : Root) → IsRoot schema root → (rows : List TableRow) × (apply schema (directory schema root db) (filter (is_at schema root) ms) ≡ Ok rows)

ok_with : (f : List TableRow → List TableRow) (r : Result (List TableRow) Refusal) (rows : List TableRow) → with_rows f r ≡ Ok rows → (next : List TableRow) × (r ≡ Ok next)
ok_with f (Ok next) rows e = (next, refl)
ok_with f (Err why) rows e = absurd cc

module _ (schema : List Table) (rules : MeetsRules schema) where
  -- where the first mutation of its own directory succeeds there, it succeeds
  first_succeeds : (m : CheckedMutation) (ms : List CheckedMutation) (db rows : List TableRow) → IsKeyed schema m.table m.key
      → apply schema (directory schema (root_at schema m) db) (filter (is_at schema (root_at schema m)) (m ∷ ms)) ≡ Ok rows → (next : List TableRow) × (apply_one schema db m ≡ Ok next)
  first_succeeds m ms db rows keyed e =
      let root = root_at schema m in
      let own : apply schema (directory schema root db) (m ∷ filter (is_at schema root) ms) ≡ Ok rows =
      ap (apply schema (directory schema root db)) (sym (filter_yes (is_at schema root) m ms (is_at-itself schema m))) ∙ e in
      let one = is_ok_of (apply_one schema (directory schema root db) m) (λ next. apply schema next (filter (is_at schema root) ms)) rows own in
      ok_with (directory schema root) (apply_one schema db m) one.0 (sym (step_same schema rules root (root_is schema rules m keyed).1 m keyed.0 (is_at-itself schema m) db) ∙ one.1)

  -- the mutations after it then succeed in each directory of what it leaves
  then_each : (m : CheckedMutation) (ms : List CheckedMutation) (db next : List TableRow) → IsKeyed schema m.table m.key → IsDatabase schema db → apply_one schema db m ≡ Ok next
      → EachSucceeds schema (m ∷ ms) db → EachSucceeds schema ms next
  then_each m ms db next keyed is_db first each root is = cases (is_at schema root m) refl
    where
      cases : (b : Bool) → is_at schema root m ≡ b → (rows : List TableRow) × (apply schema (directory schema root next) (filter (is_at schema root) ms) ≡ Ok rows)
      cases true at = (
        (each root is).0,
        sym (run_on schema (directory schema root db) m (filter (is_at schema root) ms) (directory schema root next)
            (step_same schema rules root is.1 m keyed.0 at db ∙ ap (with_rows (directory schema root)) first))
            ∙ sym (ap (apply schema (directory schema root db)) (filter_yes (is_at schema root) m ms at))
            ∙ (each root is).1,
      )
      cases false at = (
        (each root is).0,
        ap (λ (rows : List TableRow). apply schema rows (filter (is_at schema root) ms)) (sym (step_apart schema rules root is.1 m keyed at db is_db.0 next first))
            ∙ sym (ap (apply schema (directory schema root db)) (filter_no (is_at schema root) m ms at))
            ∙ (each root is).1,
      )

  -- where each directory's mutations succeed, all do
  pub apply-succeeds : (ms : List CheckedMutation) (db : List TableRow) → IsDatabase schema db → AreKeyed schema ms → EachSucceeds schema ms db → (out : List TableRow) × (apply schema db ms ≡ Ok out)
  apply-succeeds [] db is_db keyed each = (db, refl)
  apply-succeeds (m ∷ ms) db is_db keyed each =
      let own = each (root_at schema m) (root_is schema rules m keyed.0) in
      let first = first_succeeds m ms db own.0 keyed.0 own.1 in
      let rest = apply-succeeds ms first.0 (step_database schema m keyed.0 db is_db first.0 first.1) keyed.1 (then_each m ms db first.0 keyed.0 is_db first.1 each) in
      (rest.0, run_on schema db m ms first.0 first.1 ∙ rest.1)

-- the empty database
pub empty_database : (schema : List Table) → IsDatabase schema []
empty_database schema = (tt, tt)
