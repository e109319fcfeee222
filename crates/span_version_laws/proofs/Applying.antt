use Rattle.std.proofs.Common.{◌≡◌, ◌≢◌, ℕ, ◌<◌, Bool, true, false, cond, ◌==◌, List, [], ◌∷◌, ◌++◌, length, Option, Some, None, Ok, refl, ap, sym, ◌∙◌, subst}
use Rattle.std.specs.Prelude.{find, filter, map}
use Rattle.span_store.specs.declared.chain.PreparedWrite.{PreparedWrite}
use Rattle.span_store.specs.declared.chain.Version.{Version}
use Rattle.span_machine.specs.Machine.{is_at}
use Rattle.span_shard.specs.KeyVersions.{KeyVersions}
use Rattle.span_shard.specs.Versions.{is_used, with_version, applied_to_key, kept_upto}
use Rattle.span_shard.specs.Shard.{versions_at, prepared_at, IsNotOf}
use Rattle.span_shard.specs.Shard as shard
use Rattle.span_shard.proofs.Undo.{IsOpenFor, used_filtered}
use Rattle.span_machine.specs.declared.transaction.Commit.{Commit}
use Rattle.span_machine.specs.declared.transaction.OpenTransaction.{OpenTransaction}
use Rattle.span_machine.specs.declared.transaction.Decision.TheVariants as decision
use Rattle.span_machine.specs.Machine.{Machine, has_key, holds, is_transaction, is_prepared_at, without_prepared, without_first, changed_first, applied, applied_at, commit_of}
use Rattle.span_machine.specs.Kept.{ok_or}
use Rattle.span_machine_laws.proofs.Lists.{found_passes, found_in}
use Rattle.span_machine_laws.proofs.Stability.{is_some_of, changes_at}
use Rattle.span_machine_laws.proofs.InPlace.{IsUnder, IsRising, commits_at, claims}
use Rattle.span_machine_laws.proofs.Claims.{left_slot}
use Rattle.span_machine_laws.proofs.Reached.{IsReached}
use Rattle.span_version_laws.specs.Kept.{IsCodedRoot, IsCodedCoding, is_under, MakeRows, HasRows, IsPut, IsPending, IsKeptBy, AreKept, with_change, directory_after, made}
use Rattle.span_version_laws.proofs.Slots.{IsStill, placed_in, still_same, still_last, home}
use Rattle.span_version_laws.proofs.Trimming.{kept_newest, is_same_of, not_same_of, made_push}
use Rattle.span_version_laws.proofs.Keys.{applied_versions, applied_prepared, versions_at-applied, prepared_at-applied}
use Rattle.span_version_laws.proofs.Claimers.{above_horizon}
use Rattle.std.proofs.lemmas.Bool.{and_left, eq-eqb, eqb-true, ne_eqb, and_parts}
use Rattle.span_version_laws.proofs.Steps.{open_of_put, kept_still, kept_under, claimers}
use Rattle.span_version_laws.proofs.Rows.{rising_front, rows_push, rows_still, not_of_others, others_apart}
use Rattle.std.specs.List.{AllByRecursion}
use Rattle.span_schema.specs.declared.table.Table.{Table}
use Rattle.span_mutate.specs.declared.row.TableRow.{TableRow}
use Rattle.span_mutate.specs.Database.{apply}
use Rattle.span_mutate.specs.Directories.{Root}
use Rattle.span_shard.specs.Rows.{row_coded}
use Rattle.span_shard.proofs.InOrder.{in_order_applied, key_stays}
use Rattle.span_version_laws.proofs.Roots.{coded_root}

-- ---- the write of one key

-- what is of the transaction is prepared no more
none_prepared : (txn : ℕ) (p : Option PreparedWrite) → IsOpenFor txn p → applied_prepared txn p ≡ None
none_prepared txn None is = refl
none_prepared txn (Some w) is = ap (λ b. cond b None (Some w)) (eq-eqb w.txn txn is)

-- what is not of it stays
still_prepared : (txn : ℕ) (p : Option PreparedWrite) → IsNotOf txn p → applied_prepared txn p ≡ p
still_prepared txn None off = refl
still_prepared txn (Some w) off = ap (λ b. cond b None (Some w)) (ne_eqb w.txn txn off)

still_versions : (txn : ℕ) (committed : Option ℕ) (p : Option PreparedWrite) (vs : List Version) → IsNotOf txn p → applied_versions txn committed p vs ≡ vs
still_versions txn committed None vs off = refl
still_versions txn committed (Some w) vs off = ap (λ b. cond b (with_version committed w.row vs) vs) (ne_eqb w.txn txn off)

-- a write that is given up leaves no version
given_up_versions : (txn : ℕ) (p : Option PreparedWrite) (vs : List Version) → applied_versions txn None p vs ≡ vs
given_up_versions txn None vs = refl
given_up_versions txn (Some w) vs = elim (w.txn == txn) as (λ b. cond b vs vs ≡ vs) [ true ↦ refl | false ↦ refl ]

-- with the prepared write applied, the versions are those of one commit more, which is above the horizon
rows_applied : (schema : List Table) (root : Root) (k : List ℕ) (h : ℕ) (front : List Commit) (c : Commit) (vs : List Version) (before after : List TableRow) (txn : ℕ) (p : Option PreparedWrite) → HasRows schema root k h front vs → IsUnder c.timestamp front → h < c.timestamp
    → apply schema [] (changes_at schema root front) ≡ Ok before → apply schema before (filter (is_at schema root) c.mutations) ≡ Ok after → IsPut txn (row_coded schema before k) (row_coded schema after k) p
    → HasRows schema root k h (front ++ c ∷ []) (applied_versions txn (Some c.timestamp) p vs)
rows_applied schema root k h front c vs before after txn p has under high now through put = by_put p put
  where
    next : directory_after schema root before c ≡ after
    next = ap (λ r. ok_or r before) through

    push : made schema root k (front ++ c ∷ []) ≡ with_change c.timestamp (row_coded schema before k) (row_coded schema after k) (made schema root k front)
    push = made_push schema root k before front c now ∙ ap (λ (d : List TableRow). with_change c.timestamp (row_coded schema before k) (row_coded schema d k) (made schema root k front)) next

    newest : Version
    newest = record { timestamp = c.timestamp; row = row_coded schema after k }

    still : row_coded schema after k ≡ row_coded schema before k → made schema root k (front ++ c ∷ []) ≡ made schema root k front
    still same = push ∙ ap (λ (b : Bool). cond b (made schema root k front) (newest ∷ made schema root k front)) (is_same_of (row_coded schema before k) (row_coded schema after k) (sym same))

    pushed : row_coded schema after k ≢ row_coded schema before k → made schema root k (front ++ c ∷ []) ≡ newest ∷ made schema root k front
    pushed off = push ∙ ap (λ (b : Bool). cond b (made schema root k front) (newest ∷ made schema root k front)) (not_same_of (row_coded schema before k) (row_coded schema after k) off)

    by_put : (p : Option PreparedWrite) → IsPut txn (row_coded schema before k) (row_coded schema after k) p → HasRows schema root k h (front ++ c ∷ []) (applied_versions txn (Some c.timestamp) p vs)
    by_put None same = record {
      versions = has.versions ∙ ap (kept_upto h) (sym (still same));
      makes = subst (MakeRows schema root k (front ++ c ∷ [])) (sym (still same)) (rows_still schema root k front c (made schema root k front) before after has.makes under now through same);
    }
    by_put (Some w) put = record {
      versions = ap (λ b. cond b (with_version (Some c.timestamp) w.row vs) vs) (eq-eqb w.txn txn put.0)
          ∙ ap (λ (row : Option (List ℕ)). (record { timestamp = c.timestamp; row = row }) ∷ vs) put.1
          ∙ ap (λ (l : List Version). newest ∷ l) has.versions
          ∙ sym (kept_newest h newest (made schema root k front) high)
          ∙ ap (kept_upto h) (sym (pushed put.2));
      makes = subst (MakeRows schema root k (front ++ c ∷ [])) (sym (pushed put.2)) (rows_push schema root k front c (made schema root k front) before after has.makes under now through);
    }

-- its commit was pending and is applied
applied_pending : (schema : List Table) (root : Root) (k : List ℕ) (h : ℕ) (cs : List Commit) (vs : List Version) (p : Option PreparedWrite) (t : OpenTransaction) (ts : ℕ) → IsRising cs → h < ts → IsPending schema root k h cs vs p t ts
    → (applied_prepared t.number p ≡ None) × HasRows schema root k h cs (applied_versions t.number (Some ts) p vs)
applied_pending schema root k h cs vs p t ts up high is = (
  none_prepared t.number p (open_of_put t.number _ _ p is.put.put),
  subst (λ l. HasRows schema root k h l (applied_versions t.number (Some ts) p vs)) (sym is.whole)
      (rows_applied schema root k h is.front (commit_of ts t) vs is.put.before is.put.after t.number p is.rows (rising_front is.front (commit_of ts t) (subst IsRising is.whole up)) high is.put.now is.put.through is.put.put),
)

-- what holds of every key still does
keys_applied : (P : List ℕ → Type 0) (txn : ℕ) (committed : Option ℕ) (cs : List KeyVersions) → AllByRecursion (λ (c : KeyVersions). P c.key) cs → AllByRecursion (λ (c : KeyVersions). P c.key) (shard.applied txn committed cs)
keys_applied P txn committed [] all = tt
keys_applied P txn committed (c ∷ cs) all =
    elim (is_used (applied_to_key txn committed c)) as (λ b. AllByRecursion (λ (d : KeyVersions). P d.key) (cond b (applied_to_key txn committed c ∷ shard.applied txn committed cs) (shard.applied txn committed cs))) [
      | true ↦ (subst P (sym (key_stays txn committed c)) all.0, keys_applied P txn committed cs all.1)
      | false ↦ keys_applied P txn committed cs all.1
    ]

-- ---- Apply at the slot

module _ (schema : List Table) (m : Machine) (reached : IsReached schema m) {slot : ℕ} (cs : List KeyVersions) (kept : AreKept schema m slot cs) (owner txn : ℕ) (t : OpenTransaction) (found : find (is_transaction owner txn) m.transactions ≡ Some t) where
  txn_is : t.number ≡ txn
  txn_is = eqb-true t.number txn (and_parts (t.owner == owner) (t.number == txn) (found_passes (is_transaction owner txn) m.transactions t found)).1

  off_after : (root : Root) → claims schema root slot (without_prepared slot t) ≡ false
  off_after root = and_left (is_prepared_at slot (without_prepared slot t)) (is_some_of (filter (is_at schema root) t.mutations)) (left_slot slot t.prepared)

  -- the transaction claims no key more
  left : (root : Root) → IsCodedRoot schema root → holds schema kept.slot_state root ≡ true → claims schema root slot t ≡ true → filter (claims schema root slot) (applied m owner txn slot t) ≡ []
  left root is_root held is =
      let them = claimers schema m reached cs kept root is_root held (is_transaction owner txn) t found in
      elim (length (without_prepared slot t).prepared == 0) as (λ v. filter (claims schema root slot) (cond v (without_first (is_transaction owner txn) m.transactions) (changed_first (is_transaction owner txn) (without_prepared slot) m.transactions)) ≡ []) [
        | true ↦ them.gone is
        | false ↦ them.changed (without_prepared slot) is ∙ ap (λ b. cond b (without_prepared slot t ∷ []) []) (off_after root)
      ]

  others : (root : Root) → IsCodedRoot schema root → holds schema kept.slot_state root ≡ true → claims schema root slot t ≡ false → filter (claims schema root slot) (applied m owner txn slot t) ≡ filter (claims schema root slot) m.transactions
  others root is_root held off =
      let them = claimers schema m reached cs kept root is_root held (is_transaction owner txn) t found in
      elim (length (without_prepared slot t).prepared == 0) as (λ v. filter (claims schema root slot) (cond v (without_first (is_transaction owner txn) m.transactions) (changed_first (is_transaction owner txn) (without_prepared slot) m.transactions)) ≡ filter (claims schema root slot) m.transactions) [
        | true ↦ them.away_gone off
        | false ↦ them.away (without_prepared slot) off (off_after root)
      ]

  -- what is kept at a key that another transaction claims, or none
  kept_of_others : (root : Root) (is_root : IsCodedRoot schema root) (held : holds schema kept.slot_state root ≡ true) (k : List ℕ) (under : is_under schema root k ≡ true) (committed : Option ℕ) → claims schema root slot t ≡ false
      → IsKeptBy schema root k kept.slot_state.horizon (commits_at schema root m.log) (applied_versions t.number committed (prepared_at cs k) (versions_at cs k)) (applied_prepared t.number (prepared_at cs k)) (filter (claims schema root slot) (applied m owner txn slot t))
  kept_of_others root is_root held k under committed off =
      let not_its : IsNotOf t.number (prepared_at cs k) =
      not_of_others schema root k kept.slot_state.horizon (commits_at schema root m.log) (versions_at cs k) (prepared_at cs k) (filter (claims schema root slot) m.transactions) t.number (kept.kept root is_root held k under) (others_apart schema m reached root slot (is_transaction owner txn) t found off) in
      subst (λ vs. IsKeptBy schema root k kept.slot_state.horizon (commits_at schema root m.log) vs (applied_prepared t.number (prepared_at cs k)) (filter (claims schema root slot) (applied m owner txn slot t))) (sym (still_versions t.number committed (prepared_at cs k) (versions_at cs k) not_its))
      (subst (λ p. IsKeptBy schema root k kept.slot_state.horizon (commits_at schema root m.log) (versions_at cs k) p (filter (claims schema root slot) (applied m owner txn slot t))) (sym (still_prepared t.number (prepared_at cs k) not_its))
      (subst (IsKeptBy schema root k kept.slot_state.horizon (commits_at schema root m.log) (versions_at cs k) (prepared_at cs k)) (sym (others root is_root held off)) (kept.kept root is_root held k under)))

  -- where it is so at every key, it is so of the shard
  kept_by_keys : (n : Machine) (committed : Option ℕ) → n.log ≡ m.log → n.transactions ≡ applied m owner txn slot t → IsStill n.slots slot kept.slot_state
      → ((root : Root) (is_root : IsCodedRoot schema root) (held : holds schema kept.slot_state root ≡ true) (k : List ℕ) (under : is_under schema root k ≡ true)
      → IsKeptBy schema root k kept.slot_state.horizon (commits_at schema root m.log) (applied_versions t.number committed (prepared_at cs k) (versions_at cs k)) (applied_prepared t.number (prepared_at cs k)) (filter (claims schema root slot) (applied m owner txn slot t)))
      → AreKept schema n slot (shard.applied t.number committed cs)
  kept_by_keys n committed log ts still each = kept_still schema n slot kept.slot_state (shard.applied t.number committed cs) still
      (in_order_applied t.number committed cs kept.keys)
      (used_filtered (map (applied_to_key t.number committed) cs))
      (keys_applied (IsCodedCoding schema) t.number committed cs kept.coded)
      (keys_applied (λ key. has_key kept.slot_state key ≡ true) t.number committed cs kept.inside)
      (λ root is_root held k under.
      subst (λ l. IsKeptBy schema root k kept.slot_state.horizon (commits_at schema root l) (versions_at (shard.applied t.number committed cs) k) (prepared_at (shard.applied t.number committed cs) k) (filter (claims schema root slot) n.transactions)) (sym log)
      (subst (λ us. IsKeptBy schema root k kept.slot_state.horizon (commits_at schema root m.log) (versions_at (shard.applied t.number committed cs) k) (prepared_at (shard.applied t.number committed cs) k) (filter (claims schema root slot) us)) (sym ts)
      (subst (λ vs. IsKeptBy schema root k kept.slot_state.horizon (commits_at schema root m.log) vs (prepared_at (shard.applied t.number committed cs) k) (filter (claims schema root slot) (applied m owner txn slot t))) (sym (versions_at-applied t.number committed cs k kept.keys))
      (subst (λ p. IsKeptBy schema root k kept.slot_state.horizon (commits_at schema root m.log) (applied_versions t.number committed (prepared_at cs k) (versions_at cs k)) p (filter (claims schema root slot) (applied m owner txn slot t))) (sym (prepared_at-applied t.number committed cs k kept.keys))
      (each root is_root held k under)))))

  committed_key : (ts : ℕ) → t.decision ≡ decision.Committed ts → (root : Root) (is_root : IsCodedRoot schema root) (held : holds schema kept.slot_state root ≡ true) (k : List ℕ) (under : is_under schema root k ≡ true)
      → IsKeptBy schema root k kept.slot_state.horizon (commits_at schema root m.log) (applied_versions t.number (Some ts) (prepared_at cs k) (versions_at cs k)) (applied_prepared t.number (prepared_at cs k)) (filter (claims schema root slot) (applied m owner txn slot t))
  committed_key ts e root is_root held k under = elim (claims schema root slot t) as (λ v. claims schema root slot t ≡ v
      → IsKeptBy schema root k kept.slot_state.horizon (commits_at schema root m.log) (applied_versions t.number (Some ts) (prepared_at cs k) (versions_at cs k)) (applied_prepared t.number (prepared_at cs k)) (filter (claims schema root slot) (applied m owner txn slot t))) [
        | false ↦ λ off. kept_of_others root is_root held k under (Some ts) off
        | true ↦ λ is.
            let place = placed_in schema m reached root (coded_root schema root is_root) slot (home schema m cs kept root held) in
            let high : kept.slot_state.horizon < ts = above_horizon schema m reached root (coded_root schema root is_root) slot (home schema m cs kept root held) t ts (found_in (is_transaction owner txn) m.transactions t found) (and_parts (is_prepared_at slot t) (is_some_of (filter (is_at schema root) t.mutations)) is).0 e in
            subst (IsKeptBy schema root k kept.slot_state.horizon (commits_at schema root m.log) (applied_versions t.number (Some ts) (prepared_at cs k) (versions_at cs k)) (applied_prepared t.number (prepared_at cs k))) (sym (left root is_root held is))
            (applied_pending schema root k kept.slot_state.horizon (commits_at schema root m.log) (versions_at cs k) (prepared_at cs k) t ts place.rising high
            (kept_under schema m reached cs kept root is_root held k under (is_transaction owner txn) t (decision.Committed ts) found is e))
      ] refl

  aborted_key : t.decision ≡ decision.Aborted → (root : Root) (is_root : IsCodedRoot schema root) (held : holds schema kept.slot_state root ≡ true) (k : List ℕ) (under : is_under schema root k ≡ true)
      → IsKeptBy schema root k kept.slot_state.horizon (commits_at schema root m.log) (applied_versions t.number None (prepared_at cs k) (versions_at cs k)) (applied_prepared t.number (prepared_at cs k)) (filter (claims schema root slot) (applied m owner txn slot t))
  aborted_key e root is_root held k under = elim (claims schema root slot t) as (λ v. claims schema root slot t ≡ v
      → IsKeptBy schema root k kept.slot_state.horizon (commits_at schema root m.log) (applied_versions t.number None (prepared_at cs k) (versions_at cs k)) (applied_prepared t.number (prepared_at cs k)) (filter (claims schema root slot) (applied m owner txn slot t))) [
        | false ↦ λ off. kept_of_others root is_root held k under None off
        | true ↦ λ is.
            let old = kept_under schema m reached cs kept root is_root held k under (is_transaction owner txn) t decision.Aborted found is e in
            subst (IsKeptBy schema root k kept.slot_state.horizon (commits_at schema root m.log) (applied_versions t.number None (prepared_at cs k) (versions_at cs k)) (applied_prepared t.number (prepared_at cs k))) (sym (left root is_root held is)) (
              none_prepared t.number (prepared_at cs k) (open_of_put t.number _ _ (prepared_at cs k) old.0.put),
              subst (HasRows schema root k kept.slot_state.horizon (commits_at schema root m.log)) (sym (given_up_versions t.number (prepared_at cs k) (versions_at cs k))) old.1,
            )
      ] refl

  -- the commit's writes are versions
  pub kept_committed : (ts : ℕ) → t.decision ≡ decision.Committed ts → AreKept schema (applied_at (decision.Committed ts) m owner txn slot t).1 slot (shard.applied txn (Some ts) cs)
  kept_committed ts e = subst (λ n. AreKept schema (applied_at (decision.Committed ts) m owner txn slot t).1 slot (shard.applied n (Some ts) cs)) txn_is
      (kept_by_keys (applied_at (decision.Committed ts) m owner txn slot t).1 (Some ts) refl refl (still_last m.slots slot slot ts kept.slot_state kept.here) (committed_key ts e))

  -- the writes are given up
  pub kept_aborted : t.decision ≡ decision.Aborted → AreKept schema (applied_at decision.Aborted m owner txn slot t).1 slot (shard.applied txn None cs)
  kept_aborted e = subst (λ n. AreKept schema (applied_at decision.Aborted m owner txn slot t).1 slot (shard.applied n None cs)) txn_is
      (kept_by_keys (applied_at decision.Aborted m owner txn slot t).1 None refl refl (still_same m.slots slot kept.slot_state kept.here) (aborted_key e))
