-- The rows that versions have, by the commits of a directory.
use Rattle.std.proofs.Common.{◌≡◌, ◌≢◌, ℕ, ◌<◌, ◌≤◌, ◌-◌, Bool, true, false, cond, nat_le, List, [], ◌∷◌, ◌++◌, Option, Some, None, Ok, refl, ap, sym, ◌∙◌, subst, inl, inr, ◌⊎◌, arith}
use Rattle.std.specs.Prelude.{find, filter, option_and_then}
use Rattle.std.specs.List.{AllByRecursion}
use Rattle.std.proofs.lemmas.Bool.Decides.{nat_tests}
use Rattle.std.proofs.lemmas.List.{append-nil}
use Rattle.std.proofs.lemmas.List.Elements.{filter-append}
use Rattle.std.proofs.lemmas.Bool.{both_ways}
use Rattle.span_schema.specs.declared.table.Table.{Table}
use Rattle.span_schema.specs.Lineages.{MeetsRules}
use Rattle.span_truetime.specs.Limits.{timestamp_end}
use Rattle.span_mutate.specs.declared.row.TableRow.{TableRow}
use Rattle.span_mutate.specs.Database.{apply}
use Rattle.span_mutate.specs.Directories.{Root, directory}
use Rattle.span_mutate.specs.Typed.{AreTyped}
use Rattle.span_maderows.proofs.Lists.{all_filter_itself}
use Rattle.span_store.specs.declared.chain.Version.{Version}
use Rattle.span_store.specs.declared.chain.PreparedWrite.{PreparedWrite}
use Rattle.span_shard.specs.KeyVersions.{KeyVersions}
use Rattle.span_shard.specs.Rows.{row_coded}
use Rattle.span_shard.specs.Versions.{row_at}
use Rattle.span_shard.specs.Shard.{versions_at, prepared_at, row_now, end_of_time, IsNotOf}
use Rattle.span_shard.proofs.Undo.{IsOpenFor}
use Rattle.span_machine.specs.declared.transaction.Commit.{Commit}
use Rattle.span_machine.specs.declared.transaction.OpenTransaction.{OpenTransaction}
use Rattle.span_machine.specs.declared.transaction.Decision.{Decision}
use Rattle.span_machine.specs.declared.transaction.Decision.TheVariants as decision
use Rattle.span_machine.specs.Tables.{upto, mutations_of, tables}
use Rattle.span_machine.specs.Machine.{Machine, is_at, holds}
use Rattle.span_machine_laws.proofs.Lists.{found_in, kept_in, all_in, all_places}
use Rattle.span_machine_laws.proofs.Locality.{apply-directory, empty_database, ok_same}
use Rattle.span_machine_laws.proofs.Stability.{changes_at, touches}
use Rattle.span_machine_laws.proofs.InPlace.{IsUnder, IsRising, commits_at, claims, apply-append, changes_at-push, changes_at-upto}
use Rattle.span_machine_laws.proofs.Claims.{all_kept, under_filter}
use Rattle.span_machine_laws.proofs.Numbers.{same_number}
use Rattle.span_machine_laws.proofs.Schemas.{keyed_upto}
use Rattle.span_machine_laws.proofs.Reached.{IsReached}
use Rattle.span_version_laws.specs.Kept.{IsCodedRoot, is_under, MakeRows, HasRows, IsKeptUnder, IsKeptBy, AreKept, made}
use Rattle.span_version_laws.proofs.Trimming.{row_kept_all, made_upto}
use Rattle.span_version_laws.proofs.Roots.{coded_root, coded_in_directory}
use Rattle.span_version_laws.proofs.Steps.{open_of_put}

-- ---- what holds of each

all_last : {A : Type 0} (P : A → Type 0) (xs : List A) (x : A) → AllByRecursion P (xs ++ x ∷ []) → P x
all_last P [] x all = all.0
all_last P (y ∷ ys) x all = all_last P ys x all.1

-- ---- commits up to a timestamp

upto_test : (t n s : ℕ) → t < n → n ≤ s → nat_le t s ≡ true
upto_test t n s low high = grind (arith, nat_tests)

-- all commits under n are up to s
pub all_upto : (s n : ℕ) (cs : List Commit) → n ≤ s → IsUnder n cs → filter (λ d. nat_le d.timestamp s) cs ≡ cs
all_upto s n [] high under = refl
all_upto s n (c ∷ cs) high under = ap (λ b. cond b (c ∷ filter (λ d. nat_le d.timestamp s) cs) (filter (λ d. nat_le d.timestamp s) cs)) (upto_test c.timestamp n s under.0 high) ∙ ap (λ l. c ∷ l) (all_upto s n cs high under.1)

-- of commits that rise the last is above the others
pub rising_front : (cs : List Commit) (c : Commit) → IsRising (cs ++ c ∷ []) → IsUnder c.timestamp cs
rising_front [] c up = tt
rising_front (d ∷ ds) c up = (all_last (λ (e : Commit). d.timestamp < e.timestamp) ds c up.0, rising_front ds c up.1)

end_is_past : timestamp_end ≤ end_of_time
end_is_past = omega arith

-- the newest row is what all commits make
pub row_end : (schema : List Table) (root : Root) (k : List ℕ) (cs : List Commit) (vs : List Version) → MakeRows schema root k cs vs → IsUnder timestamp_end cs
    → (db : List TableRow) × (apply schema [] (changes_at schema root cs) ≡ Ok db) × (row_coded schema db k ≡ row_at vs end_of_time)
row_end schema root k cs vs has under =
    let now = has.rows end_of_time in
    (now.0, ap (λ l. apply schema [] (changes_at schema root l)) (sym (all_upto end_of_time timestamp_end cs end_is_past under)) ∙ now.1, now.2)

-- ---- one commit more

module _ (schema : List Table) (root : Root) (k : List ℕ) (front : List Commit) (c : Commit) (vs : List Version) (before after : List TableRow) (has : MakeRows schema root k front vs) (under : IsUnder c.timestamp front)
    (now : apply schema [] (changes_at schema root front) ≡ Ok before) (through : apply schema before (filter (is_at schema root) c.mutations) ≡ Ok after) where
  -- the rows with a commit after these
  rows_more : (s : ℕ) (row : Option (List ℕ)) (b : Bool) → nat_le c.timestamp s ≡ b → row_coded schema after k ≡ row ⊎ (b ≡ false) → (b ≡ false → row_at vs s ≡ row)
      → (db : List TableRow) × (apply schema [] (changes_at schema root (filter (λ d. nat_le d.timestamp s) front ++ cond b (c ∷ []) [])) ≡ Ok db) × (row_coded schema db k ≡ row)
  rows_more s row true e (inl is) other =
      let high : c.timestamp ≤ s = grind (arith, nat_tests) in (
        after,
        ap (λ l. apply schema [] (changes_at schema root (l ++ c ∷ []))) (all_upto s c.timestamp front high under)
            ∙ ap (apply schema []) (changes_at-push schema root front c)
            ∙ apply-append schema (changes_at schema root front) (filter (is_at schema root) c.mutations) [] before now
            ∙ through,
        is,
      )
  rows_more s row true e (inr bad) other = absurd (cc)
  rows_more s row false e is other =
      let old = has.rows s in
      (old.0, ap (λ l. apply schema [] (changes_at schema root l)) (append-nil (filter (λ d. nat_le d.timestamp s) front)) ∙ old.1, old.2 ∙ other refl)

  -- the row of the key before the commit is the newest
  row_before : (s : ℕ) → nat_le c.timestamp s ≡ true → row_at vs s ≡ row_coded schema before k
  row_before s e =
      let high : c.timestamp ≤ s = grind (arith, nat_tests) in
      let old = has.rows s in
      let same : old.0 ≡ before = ok_same (sym old.1 ∙ ap (λ l. apply schema [] (changes_at schema root l)) (all_upto s c.timestamp front high under) ∙ now) in
      sym old.2 ∙ ap (λ (db : List TableRow). row_coded schema db k) same

  -- the commit's row as the newest version
  pub rows_push : MakeRows schema root k (front ++ c ∷ []) ((record { timestamp = c.timestamp; row = row_coded schema after k }) ∷ vs)
  rows_push = record {
    rows = λ s.
        let newest : List Version = (record { timestamp = c.timestamp; row = row_coded schema after k }) ∷ vs in
        subst (λ l. (db : List TableRow) × (apply schema [] (changes_at schema root l) ≡ Ok db) × (row_coded schema db k ≡ row_at ((record { timestamp = c.timestamp; row = row_coded schema after k }) ∷ vs) s))
        (sym (filter-append (λ d. nat_le d.timestamp s) front (c ∷ [])))
        (elim (nat_le c.timestamp s) as (λ b. nat_le c.timestamp s ≡ b → (db : List TableRow) × (apply schema [] (changes_at schema root (filter (λ d. nat_le d.timestamp s) front ++ cond b (c ∷ []) [])) ≡ Ok db)
        × (row_coded schema db k ≡ option_and_then (λ (v : Version). v.row) (cond b (Some (record { timestamp = c.timestamp; row = row_coded schema after k })) (find (λ v. nat_le v.timestamp s) vs)))) [
          | true ↦ λ e. rows_more s (row_coded schema after k) true e (inl refl) (λ bad. absurd (cc))
          | false ↦ λ e. rows_more s (row_at vs s) false e (inr refl) (λ _. refl)
        ] refl);
  }

  -- the commit leaves the row as it was
  pub rows_still : row_coded schema after k ≡ row_coded schema before k → MakeRows schema root k (front ++ c ∷ []) vs
  rows_still same = record {
    rows = λ s.
        subst (λ l. (db : List TableRow) × (apply schema [] (changes_at schema root l) ≡ Ok db) × (row_coded schema db k ≡ row_at vs s)) (sym (filter-append (λ d. nat_le d.timestamp s) front (c ∷ [])))
        (elim (nat_le c.timestamp s) as (λ b. nat_le c.timestamp s ≡ b → (db : List TableRow) × (apply schema [] (changes_at schema root (filter (λ d. nat_le d.timestamp s) front ++ cond b (c ∷ []) [])) ≡ Ok db) × (row_coded schema db k ≡ row_at vs s)) [
          | true ↦ λ e. rows_more s (row_at vs s) true e (inl (same ∙ sym (row_before s e))) (λ bad. absurd (cc))
          | false ↦ λ e. rows_more s (row_at vs s) false e (inr refl) (λ _. refl)
        ] refl);
  }

-- ---- the tables

-- the row that the directory's commits up to s make is that of the tables at s
pub row_of_tables : (schema : List Table) → MeetsRules schema → (m : Machine) → IsReached schema m → (root : Root) → IsCodedRoot schema root → (k : List ℕ) → is_under schema root k ≡ true → (s : ℕ) (row : Option (List ℕ)) (db : List TableRow)
    → AreTyped schema db → ((made : List TableRow) × (apply schema [] (changes_at schema root (filter (λ d. nat_le d.timestamp s) (commits_at schema root m.log))) ≡ Ok made) × (row_coded schema made k ≡ row))
    → tables schema m.log s ≡ Ok db → row ≡ row_coded schema db k
row_of_tables schema rules m reached root is k under s row db typed has made =
    let tabled : apply schema [] (changes_at schema root (upto m.log s)) ≡ Ok (directory schema root db) =
    apply-directory schema rules (mutations_of (upto m.log s)) [] db root (coded_root schema root is) (empty_database schema) (keyed_upto schema m.log s reached.by_schema.log) made in
    let same : has.0 ≡ directory schema root db =
    ok_same (sym has.1 ∙ ap (apply schema []) (sym (changes_at-upto schema root m.log s (reached.placed root (coded_root schema root is)).1.rising)) ∙ tabled) in
    sym has.2 ∙ ap (λ (l : List TableRow). row_coded schema l k) same ∙ coded_in_directory schema rules root is k under db typed

-- the newest row of a key of a directory of the slot, which no transaction claims, is that of the tables
pub row_now_of_tables : (schema : List Table) → MeetsRules schema → (m : Machine) (slot : ℕ) (cs : List KeyVersions) (kept : AreKept schema m slot cs) (root : Root) (is : IsCodedRoot schema root) (held : holds schema kept.slot_state root ≡ true) (k : List ℕ) (under : is_under schema root k ≡ true) (db : List TableRow)
    → IsReached schema m → AreTyped schema db → filter (claims schema root slot) m.transactions ≡ [] → tables schema m.log (timestamp_end - 1) ≡ Ok db → row_now cs k ≡ row_coded schema db k
row_now_of_tables schema rules m slot cs kept root is held k under db reached typed empty made_db =
    let place = (reached.placed root (coded_root schema root is)).1 in
    let has : HasRows schema root k kept.slot_state.horizon (commits_at schema root m.log) (versions_at cs k) =
    (subst (IsKeptBy schema root k kept.slot_state.horizon (commits_at schema root m.log) (versions_at cs k) (prepared_at cs k)) empty (kept.kept root is held k under)).1 in
    let below : IsUnder timestamp_end (commits_at schema root m.log) = under_filter timestamp_end (touches schema root) m.log place.in_range in
    let end = row_end schema root k (commits_at schema root m.log) (made schema root k (commits_at schema root m.log)) has.makes below in
    let now : row_now cs k ≡ row_at (made schema root k (commits_at schema root m.log)) end_of_time =
    ap (λ (vs : List Version). row_at vs end_of_time) has.versions ∙ row_kept_all kept.slot_state.horizon end_of_time (made schema root k (commits_at schema root m.log)) (made_upto schema root k (commits_at schema root m.log) end_of_time timestamp_end end_is_past below) in
    now ∙ row_of_tables schema rules m reached root is k under (timestamp_end - 1) (row_at (made schema root k (commits_at schema root m.log)) end_of_time) db typed
    (end.0, ap (λ l. apply schema [] (changes_at schema root l)) (all_kept (timestamp_end - 1) (commits_at schema root m.log) below refl) ∙ end.1, end.2)
    made_db

-- ---- whose the prepared write of a key is

open_under : (schema : List Table) (root : Root) (k : List ℕ) (h : ℕ) (cs : List Commit) (vs : List Version) (p : Option PreparedWrite) (t : OpenTransaction) (o : Decision) → IsKeptUnder schema root k h cs vs p t o → IsOpenFor t.number p
open_under schema root k h cs vs p t decision.Undecided is = open_of_put t.number _ _ p is.0.put
open_under schema root k h cs vs p t decision.Aborted is = open_of_put t.number _ _ p is.0.put
open_under schema root k h cs vs p t (decision.Committed ts) is = open_of_put t.number _ _ p is.put.put

not_of : (n txn : ℕ) (p : Option PreparedWrite) → IsOpenFor n p → n ≢ txn → IsNotOf txn p
not_of n txn None is off = tt
not_of n txn (Some w) is off = λ same. off (sym is ∙ same)

-- what is prepared at a key is of no other transaction than the one that claims it
pub not_of_others : (schema : List Table) (root : Root) (k : List ℕ) (h : ℕ) (cs : List Commit) (vs : List Version) (p : Option PreparedWrite) (us : List OpenTransaction) (txn : ℕ) → IsKeptBy schema root k h cs vs p us → AllByRecursion (λ u. u.number ≢ txn) us → IsNotOf txn p
not_of_others schema root k h cs vs p [] txn is off = subst (IsNotOf txn) (sym is.0) tt
not_of_others schema root k h cs vs p (u ∷ us) txn is off = not_of u.number txn p (open_under schema root k h cs vs p u u.decision is) off.0

-- the transactions that claim a directory have other numbers than one that does not
pub others_apart : (schema : List Table) (m : Machine) → IsReached schema m → (root : Root) (slot : ℕ) (test : OpenTransaction → Bool) (t : OpenTransaction) → find test m.transactions ≡ Some t → claims schema root slot t ≡ false
    → AllByRecursion (λ u. u.number ≢ t.number) (filter (claims schema root slot) m.transactions)
others_apart schema m reached root slot test t found off = all_places (λ u. u.number ≢ t.number) (filter (claims schema root slot) m.transactions) (λ u is same.
    let alike : u ≡ t = same_number m reached.numbered u t (kept_in (claims schema root slot) m.transactions u is) (found_in test m.transactions t found) same in
    both_ways (claims schema root slot u) (subst (λ x. claims schema root slot x ≡ false) (sym alike) off) (all_in (λ x. claims schema root slot x ≡ true) (filter (claims schema root slot) m.transactions) u is (all_filter_itself (claims schema root slot) m.transactions)))
