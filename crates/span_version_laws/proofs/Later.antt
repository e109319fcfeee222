-- What a commit applies is later than what is there.
use Rattle.std.proofs.Common.{◌≡◌, ◌==◌, ℕ, ◌<◌, true, false, cond, nat_le, List, [], ◌∷◌, Option, Some, None, refl, sym, subst}
use Rattle.std.specs.Prelude.{find, filter}
use Rattle.std.specs.List.{AllByRecursion}
use Rattle.std.proofs.lemmas.Bool.{eqb-true, and_parts}
use Rattle.span_schema.specs.declared.table.Table.{Table}
use Rattle.span_schema.specs.Lineages.{MeetsRules}
use Rattle.span_mutate.specs.declared.row.TableRow.{TableRow}
use Rattle.span_mutate.specs.Directories.{Root}
use Rattle.span_arena.specs.Order.{IsLater}
use Rattle.span_store.specs.declared.chain.Version.{Version}
use Rattle.span_store.specs.declared.chain.PreparedWrite.{PreparedWrite}
use Rattle.span_shard.specs.KeyVersions.{KeyVersions}
use Rattle.span_shard.specs.Rows.{row_coded}
use Rattle.span_shard.specs.Reading.{is_same_row}
use Rattle.span_shard.specs.Versions.{kept_version, kept_upto, timestamps, IsLaterWrite}
use Rattle.span_shard.specs.Shard.{is_key, versions_of, prepared_of, versions_at, prepared_at, IsNotOf, IsLaterCommit}
use Rattle.span_machine.specs.declared.transaction.Commit.{Commit}
use Rattle.span_machine.specs.declared.transaction.OpenTransaction.{OpenTransaction}
use Rattle.span_machine.specs.declared.transaction.Decision.TheVariants as decision
use Rattle.span_machine.specs.Machine.{Machine, is_transaction, has_key, holds, commit_of}
use Rattle.span_machine_laws.proofs.Lists.{found_passes, all_found}
use Rattle.span_machine_laws.proofs.InPlace.{IsUnder, IsRising, commits_at, claims}
use Rattle.span_machine_laws.proofs.Reached.{IsReached}
use Rattle.span_version_laws.specs.Kept.{IsCodedRoot, IsCodedCoding, is_under, with_change, directory_after, made_from, made, IsPending, AreKept}
use Rattle.span_version_laws.proofs.Cuts.{held_by_key}
use Rattle.span_version_laws.proofs.Keys.{all_by_key}
use Rattle.span_version_laws.proofs.Roots.{coded_root, root_of_coding}
use Rattle.span_version_laws.proofs.Rows.{rising_front, not_of_others, others_apart}
use Rattle.span_version_laws.proofs.Steps.{kept_under}

-- ---- versions that are older than a timestamp

AreOlder : ℕ → List Version → Type 0
AreOlder s vs = AllByRecursion (λ (v : Version). v.timestamp < s) vs

older_later : (s : ℕ) (vs : List Version) → AreOlder s vs → IsLater s (timestamps vs)
unfolding AreOlder
older_later s [] all = tt
older_later s (v ∷ vs) all = all.0

older_kept : (s h : ℕ) (vs : List Version) → AreOlder s vs → AreOlder s (kept_upto h vs)
unfolding AreOlder
older_kept s h [] all = tt
older_kept s h (v ∷ vs) all = elim (nat_le v.timestamp h) as (λ b. AllByRecursion (λ (w : Version). w.timestamp < s) (cond b (kept_version v v.row) (v ∷ kept_upto h vs))) [
  | true ↦ one v.row
  | false ↦ (all.0, older_kept s h vs all.1)
]
  where
    one : (row : Option (List ℕ)) → AllByRecursion (λ (w : Version). w.timestamp < s) (kept_version v row)
    one None = tt
    one (Some row) = (all.0, tt)

module _ (schema : List Table) (root : Root) (k : List ℕ) where
  older_changed : (s ts : ℕ) (before after : Option (List ℕ)) (vs : List Version) → ts < s → AreOlder s vs → AreOlder s (with_change ts before after vs)
  unfolding AreOlder
  older_changed s ts before after vs low all =
      elim (is_same_row before after) as (λ b. AllByRecursion (λ (w : Version). w.timestamp < s) (cond b vs ((record { timestamp = ts; row = after }) ∷ vs))) [ true ↦ all | false ↦ (low, all) ]

  older_from : (s : ℕ) (db : List TableRow) (cs : List Commit) (vs : List Version) → IsUnder s cs → AreOlder s vs → AreOlder s (made_from schema root k db cs vs)
  older_from s db [] vs under all = all
  older_from s db (c ∷ cs) vs under all =
      older_from s (directory_after schema root db c) cs _ under.1 (older_changed s c.timestamp (row_coded schema db k) (row_coded schema (directory_after schema root db c) k) vs under.0 all)

  -- what commits make is older than a timestamp that is above all of theirs
  older_made : (s : ℕ) (cs : List Commit) → IsUnder s cs → AreOlder s (made schema root k cs)
  unfolding AreOlder
  older_made s cs under = older_from s [] cs [] under tt

  -- a commit that is not applied yet is later than what is kept
  later_pending : (h : ℕ) (commits : List Commit) (vs : List Version) (p : Option PreparedWrite) (t : OpenTransaction) (ts : ℕ) → IsRising commits → IsPending schema root k h commits vs p t ts → IsLater ts (timestamps vs)
  later_pending h commits vs p t ts up is =
      let under : IsUnder ts is.front = rising_front is.front (commit_of ts t) (subst IsRising is.whole up) in
      subst (λ (ws : List Version). IsLater ts (timestamps ws)) (sym is.rows.versions) (older_later ts (kept_upto h (made schema root k is.front)) (older_kept ts h (made schema root k is.front) (older_made ts is.front under)))

-- ---- the shard

of_write : (txn ts : ℕ) (vs : List Version) (p : Option PreparedWrite) → IsLater ts (timestamps vs) → IsLaterWrite txn ts vs p
of_write txn ts vs None later = tt
of_write txn ts vs (Some w) later = λ _. later

of_others : (txn ts : ℕ) (vs : List Version) (p : Option PreparedWrite) → IsNotOf txn p → IsLaterWrite txn ts vs p
of_others txn ts vs None off = tt
of_others txn ts vs (Some w) off = λ e. absurd (off e)

module _ (schema : List Table) (rules : MeetsRules schema) (m : Machine) (reached : IsReached schema m) {slot : ℕ} (cs : List KeyVersions) (kept : AreKept schema m slot cs) (owner txn : ℕ) (t : OpenTransaction) (found : find (is_transaction owner txn) m.transactions ≡ Some t) where
  txn_is : t.number ≡ txn
  txn_is = eqb-true t.number txn (and_parts (t.owner == owner) (t.number == txn) (found_passes (is_transaction owner txn) m.transactions t found)).1

  later_at : (ts : ℕ) → t.decision ≡ decision.Committed ts → (root : Root) (is_root : IsCodedRoot schema root) (held : holds schema kept.slot_state root ≡ true) (k : List ℕ) (under : is_under schema root k ≡ true) → IsLaterWrite t.number ts (versions_at cs k) (prepared_at cs k)
  later_at ts e root is_root held k under = elim (claims schema root slot t) as (λ v. claims schema root slot t ≡ v → IsLaterWrite t.number ts (versions_at cs k) (prepared_at cs k)) [
    | true ↦ (λ is. of_write t.number ts (versions_at cs k) (prepared_at cs k) (later_pending schema root k kept.slot_state.horizon (commits_at schema root m.log) (versions_at cs k) (prepared_at cs k) t ts
        (reached.placed root (coded_root schema root is_root)).1.rising
        (kept_under schema m reached cs kept root is_root held k under (is_transaction owner txn) t (decision.Committed ts) found is e)))
    | false ↦ (λ off. of_others t.number ts (versions_at cs k) (prepared_at cs k)
        (not_of_others schema root k kept.slot_state.horizon (commits_at schema root m.log) (versions_at cs k) (prepared_at cs k) (filter (claims schema root slot) m.transactions) t.number (kept.kept root is_root held k under)
        (others_apart schema m reached root slot (is_transaction owner txn) t found off)))
  ] refl

  -- a commit timestamp is later than the versions of every key where the transaction has a write prepared
  pub later_committed : (ts : ℕ) → t.decision ≡ decision.Committed ts → IsLaterCommit txn (Some ts) cs
  later_committed ts e = subst (λ (n : ℕ). IsLaterCommit n (Some ts) cs) txn_is
      (all_by_key (λ (c : KeyVersions). IsLaterWrite t.number ts c.versions c.prepared) cs kept.keys (λ c at.
      let root = root_of_coding schema rules c.key (all_found (λ (d : KeyVersions). IsCodedCoding schema d.key) (is_key c.key) cs c at kept.coded) in
      let inside : has_key kept.slot_state c.key ≡ true = all_found (λ (d : KeyVersions). has_key kept.slot_state d.key ≡ true) (is_key c.key) cs c at kept.inside in
      let held = held_by_key schema rules m reached slot kept.slot_state kept.here root.0 root.1 c.key root.2 inside in
      subst (λ (o : Option KeyVersions). IsLaterWrite t.number ts (versions_of o) (prepared_of o)) at (later_at ts e root.0 root.1 held c.key root.2)))
