use Rattle.std.proofs.Common.{◌≡◌, ◌≢◌, ℕ, Result, Bool, true, false, cond, not, ◌==◌, ◌&&◌, nat_le, List, [], ◌∷◌, ◌++◌, length, Option, Some, None, Err, refl, ap, sym, ◌∙◌, subst}
use Rattle.std.specs.Prelude.{find, filter, slice_get, slice_set}
use Rattle.std.specs.List.{AllByRecursion, list_all}
use Rattle.std.proofs.lemmas.List.{append-nil}
use Rattle.std.proofs.lemmas.List.Elements.{filter-append}
use Rattle.span_value.specs.declared.refusal.Refusal.{Refusal}
use Rattle.span_value.specs.declared.refusal.Refusal.TheVariants as refusal
use Rattle.span_truetime.specs.declared.interval.Interval.{Interval}
use Rattle.span_truetime.specs.Limits.{timestamp_end}
use Rattle.span_store.specs.declared.chain.Version.{Version}
use Rattle.span_store.specs.declared.chain.PreparedWrite.{PreparedWrite}
use Rattle.span_mutate.specs.declared.mutation.CheckedMutation.{CheckedMutation}
use Rattle.span_machine.specs.Machine.{is_at}
use Rattle.span_shard.specs.KeyVersions.{KeyVersions}
use Rattle.span_shard.specs.Shard.{versions_at, prepared_at, AreInOrder, IsInUse}
use Rattle.span_shard.proofs.Undo.{IsOpenFor}
use Rattle.span_query.specs.declared.query.Statement.{Statement}
use Rattle.span_machine.specs.declared.slot.SlotState.{SlotState}
use Rattle.span_machine.specs.declared.step.Step.{Step}
use Rattle.span_machine.specs.declared.step.Step.TheVariants.{Begin, Prepare, Decide, Apply, Advance, Trim, Open, Scan, Finish, Close, Split}
use Rattle.span_machine.specs.declared.transaction.Commit.{Commit}
use Rattle.span_machine.specs.declared.transaction.OpenTransaction.{OpenTransaction}
use Rattle.span_machine.specs.declared.transaction.Decision.{Decision}
use Rattle.span_machine.specs.declared.transaction.Decision.TheVariants as decision
use Rattle.span_machine.specs.declared.transaction.Prepared.{Prepared}
use Rattle.span_machine.specs.Slots.{root_code, slot_of}
use Rattle.span_checking.specs.RootKeys.{root_key}
use Rattle.span_machine_laws.proofs.Splits.{part_below, part_from, split_other}
use Rattle.span_machine.specs.Machine.{Machine, Answer, answer, start, first_slot, has_key, holds, begun, prepare, prepared, add_prepared, prepare_timestamp, apply_step, applied, applied_at, without_prepared, trim, trimmed, with_horizon, split_in_two, is_transaction, is_undecided, is_prepared_at, is_all_prepared, is_prepared_for, commit_timestamp, commit_of, committed, aborted, with_decision, coordinator_slot, changed_first, without_first, refused}
use Rattle.span_machine_laws.proofs.Causes.{may_commit, undecided_is}
use Rattle.span_machine_laws.proofs.Stability.{is_some_of}
use Rattle.span_machine_laws.proofs.InPlace.{commits_at, claims}
use Rattle.span_machine_laws.proofs.Claims.{commits_at-push, prepared_root, away_push, away_left, none_left}
use Rattle.span_machine_laws.proofs.Walks.{MayRefuse, Ends, answer_by}
use Rattle.span_machine_laws.proofs.Reached.{IsReached}
use Rattle.span_version_laws.specs.Kept.{IsCodedRoot, is_under, IsPut, IsPending, IsCodedCoding, IsKeptUnder, IsKeptBy, IsKeptAt, AreKept}
use Rattle.span_version_laws.proofs.Slots.{IsStill, placed_in, still_same, still_set, still_last, still_risen, other_set, same_range_has, home}
use Rattle.span_version_laws.proofs.Claimers.{Claimers, claimers_of}
use Rattle.std.proofs.lemmas.Bool.{and_left, and_right, and_from, ne_eqb, and_parts}
use Rattle.span_value.proofs.Lists.{all_weaker}
use Rattle.span_schema.specs.declared.table.Table.{Table}
use Rattle.span_mutate.specs.Directories.{Root}
use Rattle.span_version_laws.proofs.Roots.{coded_root}

-- an empty shard is what the start makes it
pub start_kept : (schema : List Table) → AreKept schema start 0 []
start_kept schema = record {
  slot_state = first_slot;
  here = refl;
  keys = tt;
  used = tt;
  coded = tt;
  inside = tt;
  kept = λ root is held k under. (refl, record { versions = refl; makes = record { rows = λ s. ([], refl, refl) } });
}

-- what a transaction put is of that transaction
pub open_of_put : (txn : ℕ) (before after : Option (List ℕ)) (p : Option PreparedWrite) → IsPut txn before after p → IsOpenFor txn p
open_of_put txn before after None put = tt
open_of_put txn before after (Some w) put = put.0

-- its only claimer was undecided and is committed
pending_of : (schema : List Table) (root : Root) (k : List ℕ) (h : ℕ) (cs : List Commit) (vs : List Version) (p : Option PreparedWrite) (t : OpenTransaction) (ts : ℕ) → IsKeptUnder schema root k h cs vs p t decision.Undecided
    → IsPending schema root k h (cs ++ commit_of ts t ∷ []) vs p (with_decision (decision.Committed ts) t) ts
pending_of schema root k h cs vs p t ts is = record { front = cs; whole = refl; put = is.0; rows = is.1 }

-- what is kept under a transaction is kept under it wherever else it is prepared
pub under_prepared : (schema : List Table) (root : Root) (k : List ℕ) (h : ℕ) (cs : List Commit) (vs : List Version) (p : Option PreparedWrite) (t : OpenTransaction) (ps : List Prepared) (o : Decision) → IsKeptUnder schema root k h cs vs p t o → IsKeptUnder schema root k h cs vs p (record t { prepared = ps }) o
under_prepared schema root k h cs vs p t ps decision.Undecided is = is
under_prepared schema root k h cs vs p t ps decision.Aborted is = is
under_prepared schema root k h cs vs p t ps (decision.Committed ts) is = record { front = is.front; whole = is.whole; put = is.put; rows = is.rows }

-- a shard of a slot that has a state of the old range and the old horizon
pub kept_still : (schema : List Table) (n : Machine) (slot : ℕ) (old : SlotState) (ds : List KeyVersions) → IsStill n.slots slot old
    → AreInOrder ds → AllByRecursion IsInUse ds → AllByRecursion (λ (c : KeyVersions). IsCodedCoding schema c.key) ds → AllByRecursion (λ (c : KeyVersions). has_key old c.key ≡ true) ds
    → ((root : Root) → IsCodedRoot schema root → holds schema old root ≡ true → (k : List ℕ) → is_under schema root k ≡ true → IsKeptAt schema n slot old.horizon ds root k)
    → AreKept schema n slot ds
kept_still schema n slot old ds still keys used coded inside each = record {
  slot_state = still.state;
  here = still.here;
  keys = keys;
  used = used;
  coded = coded;
  inside = all_weaker (λ (c : KeyVersions). has_key old c.key ≡ true) (λ (c : KeyVersions). has_key still.state c.key ≡ true) (λ c has. same_range_has still.state old still.range c.key ∙ has) ds inside;
  kept = λ root is held k under. subst (λ h. IsKeptAt schema n slot h ds root k) (sym still.horizon) (each root is (sym (same_range_has still.state old still.range (root_code schema root)) ∙ held) k under);
}

-- the same log and the same transactions, and of the slot's state the same range and horizon
pub kept_same : (schema : List Table) (m n : Machine) (slot : ℕ) (cs : List KeyVersions) (kept : AreKept schema m slot cs) → n.log ≡ m.log → n.transactions ≡ m.transactions → IsStill n.slots slot kept.slot_state → AreKept schema n slot cs
kept_same schema m n slot cs kept log ts still = kept_still schema n slot kept.slot_state cs still kept.keys kept.used kept.coded kept.inside (λ root is held k under.
    subst (λ l. IsKeptBy schema root k kept.slot_state.horizon (commits_at schema root l) (versions_at cs k) (prepared_at cs k) (filter (claims schema root slot) n.transactions)) (sym log)
    (subst (λ us. IsKeptBy schema root k kept.slot_state.horizon (commits_at schema root m.log) (versions_at cs k) (prepared_at cs k) (filter (claims schema root slot) us)) (sym ts) (kept.kept root is held k under)))

-- after a step that leaves the slot's versions, they are kept; a Prepare, an Apply, a Trim and a Split leave those of other slots
abbrev pub KeepsVersions : List Table → Machine → ℕ → List KeyVersions → Step → Answer → Type 0
KeepsVersions schema m slot cs (Prepare owner txn i) a = slot ≢ i → AreKept schema a.1 slot cs
KeepsVersions schema m slot cs (Apply owner txn i interval) a = slot ≢ i → AreKept schema a.1 slot cs
KeepsVersions schema m slot cs (Begin owner ms) a = AreKept schema a.1 slot cs
KeepsVersions schema m slot cs (Decide owner txn v interval) a = AreKept schema a.1 slot cs
KeepsVersions schema m slot cs (Advance i interval) a = AreKept schema a.1 slot cs
KeepsVersions schema m slot cs (Trim i h) a = slot ≢ i → AreKept schema a.1 slot cs
KeepsVersions schema m slot cs (Open text params bound interval) a = AreKept schema a.1 slot cs
KeepsVersions schema m slot cs (Scan query leaf i interval) a = AreKept schema a.1 slot cs
KeepsVersions schema m slot cs (Finish query) a = AreKept schema a.1 slot cs
KeepsVersions schema m slot cs (Close query) a = AreKept schema a.1 slot cs
KeepsVersions schema m slot cs (Split table key) a = ((code : List ℕ) → root_key schema table key ≡ Some code → slot_of m.slots code ≢ Some slot) → AreKept schema a.1 slot cs

module _ (schema : List Table) (m : Machine) (reached : IsReached schema m) {slot : ℕ} (cs : List KeyVersions) (kept : AreKept schema m slot cs) where
  -- the transactions that claim a directory of the slot
  pub claimers : (root : Root) → IsCodedRoot schema root → holds schema kept.slot_state root ≡ true → (test : OpenTransaction → Bool) (t : OpenTransaction) → find test m.transactions ≡ Some t → Claimers schema root slot test m.transactions t
  claimers root is_root held test t found = claimers_of schema m reached root (coded_root schema root is_root) slot (home schema m cs kept root held) test t found

  -- the slot's state stays
  still_here : IsStill m.slots slot kept.slot_state
  still_here = still_same m.slots slot kept.slot_state kept.here

  -- what is kept at a key that the found transaction claims
  pub kept_under : (root : Root) (is_root : IsCodedRoot schema root) (held : holds schema kept.slot_state root ≡ true) (k : List ℕ) (under : is_under schema root k ≡ true) (test : OpenTransaction → Bool) (t : OpenTransaction) (o : Decision) → find test m.transactions ≡ Some t → claims schema root slot t ≡ true → t.decision ≡ o
      → IsKeptUnder schema root k kept.slot_state.horizon (commits_at schema root m.log) (versions_at cs k) (prepared_at cs k) t o
  kept_under root is_root held k under test t o found is e =
      subst (IsKeptUnder schema root k kept.slot_state.horizon (commits_at schema root m.log) (versions_at cs k) (prepared_at cs k) t) e
      (subst (IsKeptBy schema root k kept.slot_state.horizon (commits_at schema root m.log) (versions_at cs k) (prepared_at cs k)) ((claimers root is_root held test t found).here is) (kept.kept root is_root held k under))

  kept_begun : (owner : ℕ) (ms : List CheckedMutation) → AreKept schema (begun m owner ms).1 slot cs
  kept_begun owner ms = kept_still schema (begun m owner ms).1 slot kept.slot_state cs still_here kept.keys kept.used kept.coded kept.inside (λ root is_root held k under.
      subst (IsKeptBy schema root k kept.slot_state.horizon (commits_at schema root m.log) (versions_at cs k) (prepared_at cs k))
      (sym (filter-append (claims schema root slot) m.transactions ((record { owner = owner; number = m.next_transaction; mutations = ms; decision = decision.Undecided; prepared = [] }) ∷ []) ∙ append-nil _)) (kept.kept root is_root held k under))

  decided_at : (root : Root) (is_root : IsCodedRoot schema root) (held : holds schema kept.slot_state root ≡ true) (k : List ℕ) (under : is_under schema root k ≡ true) (owner txn ts : ℕ) (t : OpenTransaction) → find (is_transaction owner txn) m.transactions ≡ Some t → is_undecided t ≡ true → is_all_prepared schema m t ≡ true
      → IsKeptBy schema root k kept.slot_state.horizon (commits_at schema root (m.log ++ commit_of ts t ∷ [])) (versions_at cs k) (prepared_at cs k) (filter (claims schema root slot) (changed_first (is_transaction owner txn) (with_decision (decision.Committed ts)) m.transactions))
  decided_at root is_root held k under owner txn ts t found open_still ready =
      let them = claimers root is_root held (is_transaction owner txn) t found in
      elim (is_some_of (filter (is_at schema root) t.mutations)) as (λ v. is_some_of (filter (is_at schema root) t.mutations) ≡ v
      → IsKeptBy schema root k kept.slot_state.horizon (commits_at schema root (m.log ++ commit_of ts t ∷ [])) (versions_at cs k) (prepared_at cs k) (filter (claims schema root slot) (changed_first (is_transaction owner txn) (with_decision (decision.Committed ts)) m.transactions))) [
        | false ↦ λ e.
            let same : commits_at schema root (m.log ++ commit_of ts t ∷ []) ≡ commits_at schema root m.log =
            commits_at-push schema root m.log (commit_of ts t) ∙ ap (λ b. commits_at schema root m.log ++ cond b (commit_of ts t ∷ []) []) e ∙ append-nil _ in
            let off : claims schema root slot t ≡ false = and_right (is_prepared_at slot t) (is_some_of (filter (is_at schema root) t.mutations)) e in
            subst (λ l. IsKeptBy schema root k kept.slot_state.horizon l (versions_at cs k) (prepared_at cs k) (filter (claims schema root slot) (changed_first (is_transaction owner txn) (with_decision (decision.Committed ts)) m.transactions))) (sym same)
            (subst (IsKeptBy schema root k kept.slot_state.horizon (commits_at schema root m.log) (versions_at cs k) (prepared_at cs k)) (sym (them.away (with_decision (decision.Committed ts)) off off)) (kept.kept root is_root held k under))
        | true ↦ λ e.
            let all : list_all (is_prepared_for schema m t) t.mutations ≡ true = (and_parts (not (length t.prepared == 0)) (list_all (is_prepared_for schema m t) t.mutations) ready).1 in
            let ready_at = prepared_root schema root (coded_root schema root is_root) m slot t (placed_in schema m reached root (coded_root schema root is_root) slot (home schema m cs kept root held)).only t.mutations e all in
            let is : claims schema root slot t ≡ true = and_from (is_prepared_at slot t) (is_some_of (filter (is_at schema root) t.mutations)) ready_at.0 e in
            let more : commits_at schema root (m.log ++ commit_of ts t ∷ []) ≡ commits_at schema root m.log ++ commit_of ts t ∷ [] =
            commits_at-push schema root m.log (commit_of ts t) ∙ ap (λ b. commits_at schema root m.log ++ cond b (commit_of ts t ∷ []) []) e in
            let now : filter (claims schema root slot) (changed_first (is_transaction owner txn) (with_decision (decision.Committed ts)) m.transactions) ≡ with_decision (decision.Committed ts) t ∷ [] =
            them.changed (with_decision (decision.Committed ts)) is ∙ ap (λ b. cond b (with_decision (decision.Committed ts) t ∷ []) []) is in
            subst (IsKeptBy schema root k kept.slot_state.horizon (commits_at schema root (m.log ++ commit_of ts t ∷ [])) (versions_at cs k) (prepared_at cs k)) (sym now)
            (subst (λ l. IsPending schema root k kept.slot_state.horizon l (versions_at cs k) (prepared_at cs k) (with_decision (decision.Committed ts) t) ts) (sym more)
            (pending_of schema root k kept.slot_state.horizon (commits_at schema root m.log) (versions_at cs k) (prepared_at cs k) t ts
            (kept_under root is_root held k under (is_transaction owner txn) t decision.Undecided found is (undecided_is t.decision open_still))))
      ] refl

  -- a commit is in the log before its versions are
  pub kept_decided : (owner txn ts : ℕ) (t : OpenTransaction) → find (is_transaction owner txn) m.transactions ≡ Some t → is_undecided t ≡ true → is_all_prepared schema m t ≡ true → AreKept schema (committed m owner txn ts t).1 slot cs
  kept_decided owner txn ts t found open_still ready = kept_still schema (committed m owner txn ts t).1 slot kept.slot_state cs (still_last m.slots slot (coordinator_slot t.prepared) ts kept.slot_state kept.here) kept.keys kept.used kept.coded kept.inside
      (λ root is_root held k under. decided_at root is_root held k under owner txn ts t found open_still ready)

  abort_at : (root : Root) (is_root : IsCodedRoot schema root) (held : holds schema kept.slot_state root ≡ true) (k : List ℕ) (under : is_under schema root k ≡ true) (owner txn : ℕ) (t : OpenTransaction) → find (is_transaction owner txn) m.transactions ≡ Some t → is_undecided t ≡ true
      → IsKeptBy schema root k kept.slot_state.horizon (commits_at schema root m.log) (versions_at cs k) (prepared_at cs k) (filter (claims schema root slot) (aborted m owner txn t).1.transactions)
  abort_at root is_root held k under owner txn t found open_still =
      let them = claimers root is_root held (is_transaction owner txn) t found in
      elim (length t.prepared == 0) as (λ v. (length t.prepared == 0) ≡ v
      → IsKeptBy schema root k kept.slot_state.horizon (commits_at schema root m.log) (versions_at cs k) (prepared_at cs k) (filter (claims schema root slot) (cond v (without_first (is_transaction owner txn) m.transactions) (changed_first (is_transaction owner txn) (with_decision decision.Aborted) m.transactions)))) [
        | true ↦ λ e.
            let off : claims schema root slot t ≡ false = and_left (is_prepared_at slot t) (is_some_of (filter (is_at schema root) t.mutations)) (none_left slot t.prepared e) in
            subst (IsKeptBy schema root k kept.slot_state.horizon (commits_at schema root m.log) (versions_at cs k) (prepared_at cs k)) (sym (them.away_gone off)) (kept.kept root is_root held k under)
        | false ↦ λ e. elim (claims schema root slot t) as (λ v. claims schema root slot t ≡ v
            → IsKeptBy schema root k kept.slot_state.horizon (commits_at schema root m.log) (versions_at cs k) (prepared_at cs k) (filter (claims schema root slot) (changed_first (is_transaction owner txn) (with_decision decision.Aborted) m.transactions))) [
              | false ↦ λ off. subst (IsKeptBy schema root k kept.slot_state.horizon (commits_at schema root m.log) (versions_at cs k) (prepared_at cs k)) (sym (them.away (with_decision decision.Aborted) off off)) (kept.kept root is_root held k under)
              | true ↦ λ is.
                  let now : filter (claims schema root slot) (changed_first (is_transaction owner txn) (with_decision decision.Aborted) m.transactions) ≡ with_decision decision.Aborted t ∷ [] =
                  them.changed (with_decision decision.Aborted) is ∙ ap (λ b. cond b (with_decision decision.Aborted t ∷ []) []) is in
                  subst (IsKeptBy schema root k kept.slot_state.horizon (commits_at schema root m.log) (versions_at cs k) (prepared_at cs k)) (sym now)
                  (kept_under root is_root held k under (is_transaction owner txn) t decision.Undecided found is (undecided_is t.decision open_still))
            ] refl
      ] refl

  kept_abandoned : (owner txn : ℕ) (t : OpenTransaction) → find (is_transaction owner txn) m.transactions ≡ Some t → is_undecided t ≡ true → AreKept schema (aborted m owner txn t).1 slot cs
  kept_abandoned owner txn t found open_still = kept_still schema (aborted m owner txn t).1 slot kept.slot_state cs still_here kept.keys kept.used kept.coded kept.inside (λ root is_root held k under. abort_at root is_root held k under owner txn t found open_still)

  -- ---- steps at another slot

  -- a transaction that is prepared at another slot, or there no more, claims the same directories here
  changed_away : (root : Root) (is_root : IsCodedRoot schema root) (held : holds schema kept.slot_state root ≡ true) (k : List ℕ) (under : is_under schema root k ≡ true) (test : OpenTransaction → Bool) (t : OpenTransaction) → find test m.transactions ≡ Some t
      → (change : OpenTransaction → OpenTransaction) (ps : List Prepared) → (record t { prepared = ps }) ≡ change t → is_prepared_at slot (change t) ≡ is_prepared_at slot t
      → IsKeptBy schema root k kept.slot_state.horizon (commits_at schema root m.log) (versions_at cs k) (prepared_at cs k) (filter (claims schema root slot) (changed_first test change m.transactions))
  changed_away root is_root held k under test t found change ps same still = by_claim (claims schema root slot t) refl
    where
      them : Claimers schema root slot test m.transactions t
      them = claimers root is_root held test t found

      alike : claims schema root slot (change t) ≡ claims schema root slot t
      alike = ap (λ (u : OpenTransaction). is_prepared_at slot (change t) && is_some_of (filter (is_at schema root) u.mutations)) (sym same) ∙ ap (λ b. b && is_some_of (filter (is_at schema root) t.mutations)) still

      by_claim : (b : Bool) → claims schema root slot t ≡ b → IsKeptBy schema root k kept.slot_state.horizon (commits_at schema root m.log) (versions_at cs k) (prepared_at cs k) (filter (claims schema root slot) (changed_first test change m.transactions))
      by_claim false off = subst (IsKeptBy schema root k kept.slot_state.horizon (commits_at schema root m.log) (versions_at cs k) (prepared_at cs k)) (sym (them.away change off (alike ∙ off))) (kept.kept root is_root held k under)
      by_claim true is =
          let now : filter (claims schema root slot) (changed_first test change m.transactions) ≡ (record t { prepared = ps }) ∷ [] =
          them.changed change is ∙ ap (λ b. cond b (change t ∷ []) []) (alike ∙ is) ∙ ap (λ (u : OpenTransaction). u ∷ []) (sym same) in
          subst (IsKeptBy schema root k kept.slot_state.horizon (commits_at schema root m.log) (versions_at cs k) (prepared_at cs k)) (sym now)
          (under_prepared schema root k kept.slot_state.horizon (commits_at schema root m.log) (versions_at cs k) (prepared_at cs k) t ps t.decision (kept_under root is_root held k under test t t.decision found is refl))

  kept_prepared_away : (owner txn i : ℕ) (t : OpenTransaction) (slot_state : SlotState) → slot ≢ i → find (is_transaction owner txn) m.transactions ≡ Some t → slice_get m.slots i ≡ Some slot_state → AreKept schema (prepared m owner txn i slot_state).1 slot cs
  kept_prepared_away owner txn i t slot_state off found here =
      kept_still schema (prepared m owner txn i slot_state).1 slot kept.slot_state cs (still_set m.slots slot i kept.slot_state slot_state (record slot_state { last = prepare_timestamp slot_state }) kept.here here refl refl) kept.keys kept.used kept.coded kept.inside
      (λ root is_root held k under. changed_away root is_root held k under (is_transaction owner txn) t found (add_prepared i (prepare_timestamp slot_state)) (add_prepared i (prepare_timestamp slot_state) t).prepared refl
      (away_push slot i (prepare_timestamp slot_state) t.prepared (ne_eqb i slot (λ e. off (sym e)))))

  applied_away : (owner txn i : ℕ) (t : OpenTransaction) → slot ≢ i → find (is_transaction owner txn) m.transactions ≡ Some t → (root : Root) (is_root : IsCodedRoot schema root) (held : holds schema kept.slot_state root ≡ true) (k : List ℕ) (under : is_under schema root k ≡ true)
      → IsKeptBy schema root k kept.slot_state.horizon (commits_at schema root m.log) (versions_at cs k) (prepared_at cs k) (filter (claims schema root slot) (applied m owner txn i t))
  applied_away owner txn i t off found root is_root held k under = by_left (length (without_prepared i t).prepared == 0) refl
    where
      still : is_prepared_at slot (without_prepared i t) ≡ is_prepared_at slot t
      still = away_left slot i t.prepared (ne_eqb i slot (λ e. off (sym e)))

      by_left : (b : Bool) → (length (without_prepared i t).prepared == 0) ≡ b
          → IsKeptBy schema root k kept.slot_state.horizon (commits_at schema root m.log) (versions_at cs k) (prepared_at cs k) (filter (claims schema root slot) (cond b (without_first (is_transaction owner txn) m.transactions) (changed_first (is_transaction owner txn) (without_prepared i) m.transactions)))
      by_left true e =
          let none : claims schema root slot t ≡ false = and_left (is_prepared_at slot t) (is_some_of (filter (is_at schema root) t.mutations)) (sym still ∙ none_left slot (without_prepared i t).prepared e) in
          subst (IsKeptBy schema root k kept.slot_state.horizon (commits_at schema root m.log) (versions_at cs k) (prepared_at cs k)) (sym ((claimers root is_root held (is_transaction owner txn) t found).away_gone none)) (kept.kept root is_root held k under)
      by_left false e = changed_away root is_root held k under (is_transaction owner txn) t found (without_prepared i) (without_prepared i t).prepared refl still

  kept_applied_away : (o : Decision) (owner txn i : ℕ) (t : OpenTransaction) → slot ≢ i → find (is_transaction owner txn) m.transactions ≡ Some t → AreKept schema (applied_at o m owner txn i t).1 slot cs
  kept_applied_away decision.Undecided owner txn i t off found = kept
  kept_applied_away decision.Aborted owner txn i t off found =
      kept_still schema (applied_at decision.Aborted m owner txn i t).1 slot kept.slot_state cs still_here kept.keys kept.used kept.coded kept.inside (λ root is_root held k under. applied_away owner txn i t off found root is_root held k under)
  kept_applied_away (decision.Committed ts) owner txn i t off found =
      kept_still schema (applied_at (decision.Committed ts) m owner txn i t).1 slot kept.slot_state cs (still_last m.slots slot i ts kept.slot_state kept.here) kept.keys kept.used kept.coded kept.inside (λ root is_root held k under. applied_away owner txn i t off found root is_root held k under)

  kept_trimmed_away : (i h : ℕ) (slot_state : SlotState) → slot ≢ i → AreKept schema (trimmed schema m i h slot_state).1 slot cs
  kept_trimmed_away i h slot_state off = kept_same schema m (trimmed schema m i h slot_state).1 slot cs kept refl refl (still_same (slice_set m.slots i (with_horizon h slot_state)) slot kept.slot_state (other_set m.slots slot i (with_horizon h slot_state) off ∙ kept.here))

  -- the slot's state stays where another slot is cut in two
  pub kept_split_elsewhere : (code : List ℕ) (i : ℕ) (slot_state : SlotState) → slot ≢ i → AreKept schema (split_in_two m i code slot_state).1 slot cs
  kept_split_elsewhere code i slot_state off = kept_same schema m (split_in_two m i code slot_state).1 slot cs kept refl refl
      (still_same (slice_set m.slots i (part_below code slot_state) ++ part_from code slot_state ∷ []) slot kept.slot_state (split_other m.slots i (part_below code slot_state) (part_from code slot_state) kept.slot_state slot off kept.here))

  -- ---- all steps

  kept_refused : (step : Step) (why : Refusal) → MayRefuse step why → KeepsVersions schema m slot cs step (refused m why)
  kept_refused (Prepare owner txn i) why may = λ off. kept
  kept_refused (Apply owner txn i interval) why may = λ off. kept
  kept_refused (Begin owner ms) why may = kept
  kept_refused (Decide owner txn v interval) why may = kept
  kept_refused (Advance i interval) why may = kept
  kept_refused (Trim i h) why may = λ off. kept
  kept_refused (Open text params bound interval) why may = kept
  kept_refused (Scan query leaf i interval) why may = kept
  kept_refused (Finish query) why may = kept
  kept_refused (Close query) why may = kept
  kept_refused (Split table key) why may = λ off. kept

  kept_ends : (u : Result Statement Refusal) → Ends schema m u (KeepsVersions schema m slot cs)
  kept_ends u = record {
    refuses = kept_refused;
    begins = λ owner ms accepted. kept_begun owner ms;
    prepares = λ owner txn i t slot_state found here accepted well fits low off. kept_prepared_away owner txn i t slot_state off found here;
    commits = λ owner txn interval t found accepted.
        let may = may_commit (is_undecided t) (is_all_prepared schema m t) (nat_le timestamp_end (commit_timestamp m t interval)) accepted in
        kept_decided owner txn (commit_timestamp m t interval) t found may.0 may.1;
    aborts = λ owner txn interval t found open_still. kept_abandoned owner txn t found open_still;
    applies = λ owner txn i interval t slot_state found here accepted off. kept_applied_away t.decision owner txn i t off found;
    advances = λ i interval slot_state here. kept_same schema m _ slot cs kept refl refl (still_set m.slots slot i kept.slot_state slot_state _ kept.here here refl refl);
    trims = λ i h slot_state here accepted off. kept_trimmed_away i h slot_state off;
    opens = λ text params bound interval asked is accepted. kept_same schema m _ slot cs kept refl refl still_here;
    finds_nothing = λ query leaf i interval. kept;
    scans = λ query leaf i interval q slot_state l part found here at gap above safe. kept_same schema m _ slot cs kept refl refl (still_risen m.slots slot i q.s interval kept.slot_state slot_state kept.here here);
    waits = λ query leaf i interval q slot_state found here. kept_same schema m _ slot cs kept refl refl (still_risen m.slots slot i q.s interval kept.slot_state slot_state kept.here here);
    finishes = λ query q found covered. kept;
    closes = λ query q found. kept_same schema m _ slot cs kept refl refl still_here;
    splits = λ table key code i slot_state keyed home here accepted off. kept_split_elsewhere code i slot_state (λ e. off code keyed (home ∙ ap Some (sym e)));
  }

  -- every step keeps what is kept, its refusals included, but a Prepare, an Apply, a Trim and a Split of the slot itself
  pub kept_by_step : (u : Result Statement Refusal) (step : Step) → KeepsVersions schema m slot cs step (answer schema m u step)
  kept_by_step u step = answer_by schema m u (KeepsVersions schema m slot cs) (kept_ends u) step

  -- what is understood of a query text where there is none
  abbrev no_text : Result Statement Refusal
  no_text = Err refusal.Syntax

  -- at another slot
  pub kept_prepare_elsewhere : (owner txn i : ℕ) → slot ≢ i → AreKept schema (prepare schema m owner txn i).1 slot cs
  kept_prepare_elsewhere owner txn i off = kept_by_step no_text (Prepare owner txn i) off

  pub kept_apply_elsewhere : (owner txn i : ℕ) (interval : Interval) → slot ≢ i → AreKept schema (apply_step m owner txn i interval).1 slot cs
  kept_apply_elsewhere owner txn i interval off = kept_by_step no_text (Apply owner txn i interval) off

  pub kept_trim_elsewhere : (i h : ℕ) → slot ≢ i → AreKept schema (trim schema m i h).1 slot cs
  kept_trim_elsewhere i h off = kept_by_step no_text (Trim i h) off
