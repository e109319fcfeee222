-- Apply and Trim of a slot, in the journal and in the slot's shard.
use Rattle.std.proofs.Common.{◌≡◌, ℕ, ◌≤◌, nat_lt, false, List, Option, Some, None, ap, sym, ◌∙◌, subst, arith}
use Rattle.std.specs.Prelude.{find, slice_get, slice_set}
use Rattle.std.proofs.lemmas.Bool.Decides.{nat_tests}
use Rattle.span_value.specs.declared.refusal.Refusal.{Refusal}
use Rattle.span_value.specs.declared.refusal.Refusal.TheVariants as refusal
use Rattle.span_truetime.specs.declared.interval.Interval.{Interval}
use Rattle.span_schema.specs.declared.table.Table.{Table}
use Rattle.span_shard.specs.KeyVersions.{KeyVersions}
use Rattle.span_shard.specs.Shard.{IsLaterCommit}
use Rattle.span_shard.specs.Shard as shard
use Rattle.span_machine.specs.declared.step.Step.TheVariants as step
use Rattle.span_machine.specs.declared.step.Reply.TheVariants as reply
use Rattle.span_machine.specs.declared.slot.SlotState.{SlotState}
use Rattle.span_machine.specs.declared.transaction.Decision.{Decision}
use Rattle.span_machine.specs.declared.transaction.OpenTransaction.{OpenTransaction}
use Rattle.span_machine.specs.Machine.{Machine, Answer, IsAnswer, refused, unless_refused, if_some, for_slot, is_transaction, is_safe, trim, trim_slot, trimmed, with_horizon, applied_at, apply_step, apply_transaction}
use Rattle.span_machine.specs.Kept as kept
use Rattle.span_machine.specs.Pieces.{Journaled, machine_of}
use Rattle.span_machine_laws.proofs.Causes.{may_trim}
use Rattle.span_machine_laws.proofs.Reached.{IsReached, answer_reached}
use Rattle.span_version_laws.specs.Kept.{AreKept}
use Rattle.span_version_laws.proofs.Trims.{kept_trimmed}
use Rattle.span_version_laws.proofs.Live.{live_is_kept}
use Rattle.span_version_laws.proofs.AllKept.{slots_stay, all_kept_set}
use Rattle.span_version_laws.proofs.Steps.{kept_apply_elsewhere, kept_trim_elsewhere}
use Rattle.span_version_laws.proofs.Applying.{kept_committed, kept_aborted}
use Rattle.span_version_laws.proofs.Later.{later_committed}
use Rattle.span_transactions.specs.States.{decision_of}
use Rattle.span_journal.specs.Judged.{IsApplied, IsRaised}
use Rattle.span_parts.specs.Whole.{Shards, IsWhole}
use Rattle.span_parts.proofs.Changes.{set_there}
use Rattle.span_parts.proofs.Wholes.{no_text, goes_to, pieces_same}

-- ---- apply

apply_is : (m : Machine) (owner txn slot : ℕ) (interval : Interval) (committed : Option ℕ) (n : Machine) → (d : IsApplied m owner txn slot interval committed n) → apply_step m owner txn slot interval ≡ applied_at (decision_of committed) m owner txn slot d.transaction
apply_is m owner txn slot interval committed n d =
    ap (λ (o : Option OpenTransaction). if_some o (refused m refusal.UnknownTransaction) (λ t. for_slot m slot (apply_transaction m owner txn slot interval t))) d.found
    ∙ ap (λ (o : Option SlotState). if_some o (refused m refusal.NoSlot) (apply_transaction m owner txn slot interval d.transaction)) d.here
    ∙ ap (λ (o : Option Refusal). unless_refused m o (applied_at d.transaction.decision m owner txn slot d.transaction)) d.accepted
    ∙ ap (λ (o : Decision). applied_at o m owner txn slot d.transaction) d.decision

kept_applied : (schema : List Table) (m : Machine) (cs : List KeyVersions) (owner txn slot : ℕ) (committed : Option ℕ) (t : OpenTransaction) → IsReached schema m → AreKept schema m slot cs → find (is_transaction owner txn) m.transactions ≡ Some t → t.decision ≡ decision_of committed
    → AreKept schema (applied_at (decision_of committed) m owner txn slot t).1 slot (shard.applied txn committed cs)
kept_applied schema m cs owner txn slot None t reached kept found is = kept_aborted schema m reached cs kept owner txn t found is
kept_applied schema m cs owner txn slot (Some ts) t reached kept found is = kept_committed schema m reached cs kept owner txn t found ts is

module _ (schema : List Table) (j : Journaled) (shards : Shards) (w : IsWhole schema j shards) (slot : ℕ) (before : List KeyVersions) (there : slice_get shards slot ≡ Some before) where
  here_kept : AreKept schema (machine_of j) slot before
  here_kept = w.kept.each slot before there

  module _ (owner txn : ℕ) (interval : Interval) (committed : Option ℕ) (n : Machine) (d : IsApplied (machine_of j) owner txn slot interval committed n) where
    -- a commit timestamp is later than the versions of every key where the transaction has a write prepared
    pub later_applied : IsLaterCommit txn committed before
    later_applied = by_committed committed d.decision
      where
        by_committed : (o : Option ℕ) → d.transaction.decision ≡ decision_of o → IsLaterCommit txn o before
        by_committed None is = tt
        by_committed (Some ts) is = later_committed schema w.rules (machine_of j) w.reached before here_kept owner txn d.transaction d.found ts is

    -- the shards belong to the journal that has noted it
    pub whole_applied : (k : Journaled) → machine_of k ≡ n → k.queries ≡ j.queries → IsWhole schema k (slice_set shards slot (shard.applied txn committed before))
    whole_applied k same queries =
        let m = machine_of j in
        let e = apply_is m owner txn slot interval committed n d in
        let is : machine_of k ≡ (apply_step m owner txn slot interval).1 = same ∙ d.after ∙ sym (ap (λ (a : Answer). a.1) e) in
        let after : AreKept schema (apply_step m owner txn slot interval).1 slot (shard.applied txn committed before) =
        subst (λ (a : Answer). AreKept schema a.1 slot (shard.applied txn committed before)) (sym e) (kept_applied schema m before owner txn slot committed d.transaction w.reached here_kept d.found d.decision) in
        goes_to schema j k no_text (step.Apply owner txn slot interval) tt is (pieces_same schema j.queries k.queries queries) shards (slice_set shards slot (shard.applied txn committed before)) w
        (all_kept_set schema m (apply_step m owner txn slot interval).1 shards slot (shard.applied txn committed before) (slots_stay schema m no_text (step.Apply owner txn slot interval) (λ table key f. cc)) after
        (λ i cs off kept. kept_apply_elsewhere schema m w.reached cs kept owner txn slot interval off) w.kept)

  -- ---- trim

  module _ (h : ℕ) (n : Machine) (d : IsRaised (machine_of j) slot h n) where
    trim_is : trim schema (machine_of j) slot h ≡ trimmed schema (machine_of j) slot h d.slot_state
    trim_is =
        ap (λ (o : Option SlotState). if_some o (refused (machine_of j) refusal.NoSlot) (trim_slot schema (machine_of j) slot h)) d.here
        ∙ ap (λ (o : Option Refusal). unless_refused (machine_of j) o (trimmed schema (machine_of j) slot h d.slot_state)) d.accepted

    not_below : (s floor : ℕ) → nat_lt s floor ≡ false → floor ≤ s
    not_below s floor e = grind (arith, nat_tests)

    after_trim : AreKept schema (trim schema (machine_of j) slot h).1 slot (shard.trimmed h before)
    after_trim =
        let m = machine_of j in
        let high : d.slot_state.horizon ≤ h = not_below h d.slot_state.horizon (may_trim (nat_lt h d.slot_state.horizon) (is_safe m slot d.slot_state h) d.accepted).0 in
        subst (λ (a : Answer). AreKept schema a.1 slot (shard.trimmed h before)) (sym trim_is) (kept_trimmed schema m before here_kept h d.slot_state d.here high)

    -- the shards belong to the journal whose horizon has risen
    pub whole_trimmed : (k : Journaled) → machine_of k ≡ n → k.queries ≡ j.queries → IsWhole schema k (slice_set shards slot (shard.trimmed h before))
    whole_trimmed k same queries =
        let m = machine_of j in
        let is : machine_of k ≡ (trim schema m slot h).1 = same ∙ d.after ∙ sym (ap (λ (a : Answer). a.1) trim_is) in
        goes_to schema j k no_text (step.Trim slot h) tt is (pieces_same schema j.queries k.queries queries) shards (slice_set shards slot (shard.trimmed h before)) w
        (all_kept_set schema m (trim schema m slot h).1 shards slot (shard.trimmed h before) (slots_stay schema m no_text (step.Trim slot h) (λ table key f. cc)) after_trim
        (λ i cs off kept. kept_trim_elsewhere schema m w.reached cs kept slot h off) w.kept)

    -- what is left in the shard is what the machine answers
    pub trimmed_answer : IsAnswer (trim schema (machine_of j) slot h) (reply.Trimmed (shard.live (shard.trimmed h before))) n
    trimmed_answer =
        let m = machine_of j in
        let t = trimmed schema m slot h d.slot_state in
        let reached = trimmed_reached in
        let here : slice_get t.1.slots slot ≡ Some (with_horizon h d.slot_state) = set_there m.slots slot d.slot_state (with_horizon h d.slot_state) d.here in
        let number : shard.live (shard.trimmed h before) ≡ kept.live schema m.log m.transactions slot (with_horizon h d.slot_state) =
        live_is_kept schema w.rules t.1 slot (with_horizon h d.slot_state) (shard.trimmed h before) reached (subst (λ (a : Answer). AreKept schema a.1 slot (shard.trimmed h before)) trim_is after_trim) here in
        (ap reply.Trimmed number ∙ sym (ap (λ (a : Answer). a.0) trim_is), d.after ∙ sym (ap (λ (a : Answer). a.1) trim_is))
      where
        trimmed_reached : IsReached schema (trimmed schema (machine_of j) slot h d.slot_state).1
        trimmed_reached = subst (λ (a : Answer). IsReached schema a.1) trim_is (answer_reached schema w.rules (machine_of j) w.reached no_text (step.Trim slot h) tt)

-- as many versions are kept as the machine counts at the slot's horizon
pub live_here : (schema : List Table) (j : Journaled) (shards : Shards) → IsWhole schema j shards → (slot : ℕ) (slot_state : SlotState) (cs : List KeyVersions) → slice_get (machine_of j).slots slot ≡ Some slot_state → slice_get shards slot ≡ Some cs
    → shard.live cs ≡ kept.live schema (machine_of j).log (machine_of j).transactions slot slot_state
live_here schema j shards w slot slot_state cs here there = live_is_kept schema w.rules (machine_of j) slot slot_state cs w.reached (w.kept.each slot cs there) here
