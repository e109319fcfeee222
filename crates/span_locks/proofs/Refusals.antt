-- What the machine replies to a step: which refusals, and what is true of the other replies.
use Rattle.std.proofs.Common.{◌≡◌, ◌⊎◌, ◌≤◌, ◌<◌, ◌+◌, ◌-◌, ℕ, Bool, true, false, ◌==◌, ◌||◌, cond, not, nat_le, nat_lt, List, [], ◌∷◌, length, Option, Some, None, Result, Ok, Err, refl, sym, ap, ◌∙◌, subst, inl, inr, arith}
use Rattle.std.specs.Prelude.{count_by, find, map, max, slice_get}
use Rattle.std.specs.List.{list_any}
use Rattle.std.proofs.Math.Nat.{le-max_right}
use Rattle.std.proofs.lemmas.Bool.{leb-false}
use Rattle.std.proofs.lemmas.Option.{slice_get_within, same_Some, none-some}
use Rattle.span_value.specs.declared.refusal.Refusal.{Refusal}
use Rattle.span_value.specs.declared.refusal.Refusal.TheVariants as refusal
use Rattle.span_value.specs.Results.{first_cause, and_then}
use Rattle.span_schema.specs.declared.table.Table.{Table}
use Rattle.span_schema.specs.Lineages.{MeetsRules}
use Rattle.span_mutate.specs.declared.mutation.CheckedMutation.{CheckedMutation}
use Rattle.span_mutate.specs.declared.row.TableRow.{TableRow}
use Rattle.span_mutate.specs.Database.{apply}
use Rattle.span_mutate.specs.Faults.{is_mutation_fault}
use Rattle.span_mutate.proofs.Faults.{faults_are_named}
use Rattle.span_truetime.specs.Limits.{timestamp_end}
use Rattle.span_truetime.specs.declared.interval.Interval.{Interval}
use Rattle.span_machine.specs.declared.slot.SlotState.{SlotState}
use Rattle.span_machine.specs.declared.step.Reply.TheVariants as reply
use Rattle.span_machine.specs.declared.step.Verdict.TheVariants as verdict
use Rattle.span_machine.specs.declared.transaction.Decision.{Decision}
use Rattle.span_machine.specs.declared.transaction.Decision.TheVariants as decision
use Rattle.span_machine.specs.declared.transaction.OpenTransaction.{OpenTransaction}
use Rattle.span_machine.specs.Kept as kept
use Rattle.span_machine.specs.Limits.{most_transactions, most_commits, most_slots, number_end}
use Rattle.span_machine.specs.Machine.{Machine, Answer, refused, if_some, refusal_of, unless_refused, for_slot, has_conflict, is_early, is_transaction, is_undecided, is_prepared_at, is_all_prepared, mutations_in, begin_refusal, begun, begin, prepare_refusal, mutations_refusal, capacity_refusal, prepare_timestamp, prepared, prepare_transaction, prepare, commit_refusal, commit_timestamp, committed, aborted, decide_transaction, decide, apply_refusal, applied_at, apply_transaction, apply_step, advanced, advance, begins_at, slot_of, split_refusal, split_in_two, split_slot, split_at}
use Rattle.span_machine_laws.proofs.Reached.{IsReached, reached_tables}
use Rattle.span_machine_laws.proofs.Splits.{may_split}
use Rattle.span_locks.specs.Replies.{at_slot, IsAmong, IsPrepareRefusal, begin_refusals, apply_refusals, abort_refusals, decide_refusals, prepare_refusals, split_refusals}

-- ---- replies of one kind

pub refused_same : (a b : Refusal) → reply.Refused a ≡ reply.Refused b → a ≡ b
refused_same a b e = cc

floor_same : (a b : ℕ) → reply.Floor a ≡ reply.Floor b → a ≡ b
floor_same a b e = cc

split_same : (a b : ℕ) → reply.Split a ≡ reply.Split b → a ≡ b
split_same a b e = cc

-- a refusal is no other reply
refused_began : (a : Refusal) (n : ℕ) → reply.Refused a ≡ reply.Began n → ⊥
refused_began a n e = absurd (cc e)

refused_floor : (a : Refusal) (n : ℕ) → reply.Refused a ≡ reply.Floor n → ⊥
refused_floor a n e = absurd (cc e)

refused_prepared : (a : Refusal) (n : ℕ) → reply.Refused a ≡ reply.Prepared n → ⊥
refused_prepared a n e = absurd (cc e)

refused_split : (a : Refusal) (n : ℕ) → reply.Refused a ≡ reply.Split n → ⊥
refused_split a n e = absurd (cc e)

refused_decided : (a : Refusal) (n : ℕ) → reply.Refused a ≡ reply.Decided n → ⊥
refused_decided a n e = absurd (cc e)

refused_applied : (a : Refusal) → reply.Refused a ≡ reply.Applied → ⊥
refused_applied a e = absurd (cc e)

refused_aborted : (a : Refusal) → reply.Refused a ≡ reply.Aborted → ⊥
refused_aborted a e = absurd (cc e)

decided_aborted : (n : ℕ) → reply.Decided n ≡ reply.Aborted → ⊥
decided_aborted n e = absurd (cc e)

-- ---- causes

-- a refusal is the cause, or that of the answer
unless_cause : (m : Machine) (o : Option Refusal) (a : Answer) (why : Refusal) → reply.Refused why ≡ (unless_refused m o a).0 → (o ≡ Some why) ⊎ (reply.Refused why ≡ a.0)
unless_cause m None a why e = inr e
unless_cause m (Some w) a why e = inl (ap (λ (x : Refusal). Some x) (sym (refused_same why w e)))

-- the first cause is one of them
among_causes : (cs : List (Bool × Refusal)) (why : Refusal) → first_cause cs ≡ Some why → IsAmong (map (λ (c : Bool × Refusal). c.1) cs) why
among_causes [] why e = absurd (none-some why e)
among_causes (c ∷ cs) why e = by c.0 e (among_causes cs why)
  where
    by : (b : Bool) → cond b (Some c.1) (first_cause cs) ≡ Some why → (first_cause cs ≡ Some why → IsAmong (map (λ (x : Bool × Refusal). x.1) cs) why) → IsAmong (map (λ (x : Bool × Refusal). x.1) (c ∷ cs)) why
    by true f later = inl (sym (same_Some c.1 why f))
    by false f later = inr (later f)

-- no such slot comes first
pub at_slot_cause : (m : Machine) (slot : ℕ) (step : Machine → Answer) (why : Refusal) → reply.Refused why ≡ (at_slot slot step m).0 → (why ≡ refusal.NoSlot) ⊎ (reply.Refused why ≡ (step m).0)
at_slot_cause m slot step why e = by (slice_get m.slots slot) e
  where
    by : (o : Option SlotState) → reply.Refused why ≡ (if_some o (refused m refusal.NoSlot) (λ _. step m)).0 → (why ≡ refusal.NoSlot) ⊎ (reply.Refused why ≡ (step m).0)
    by None f = inl (refused_same why refusal.NoSlot f)
    by (Some s) f = inr f

-- ---- slots alone

module _ (m : Machine) (slot : ℕ) (interval : Interval) where
  pub advance_refused : (why : Refusal) → reply.Refused why ≡ (advance m slot interval).0 → why ≡ refusal.NoSlot
  advance_refused why e = by (slice_get m.slots slot) e
    where
      by : (o : Option SlotState) → reply.Refused why ≡ (if_some o (refused m refusal.NoSlot) (advanced m slot interval)).0 → why ≡ refusal.NoSlot
      by None f = refused_same why refusal.NoSlot f
      by (Some s) f = absurd (refused_floor why (max s.floor interval.latest) f)

  -- the floor is not below the clock's latest time
  pub advance_floor : (floor : ℕ) → reply.Floor floor ≡ (advance m slot interval).0 → interval.latest ≤ floor
  advance_floor floor e = by (slice_get m.slots slot) e
    where
      by : (o : Option SlotState) → reply.Floor floor ≡ (if_some o (refused m refusal.NoSlot) (advanced m slot interval)).0 → interval.latest ≤ floor
      by None f = absurd (refused_floor refusal.NoSlot floor (sym f))
      by (Some s) f = subst (λ (n : ℕ). interval.latest ≤ n) (sym (floor_same floor (max s.floor interval.latest) f)) (le-max_right s.floor interval.latest)

-- ---- splits

module _ (m : Machine) (key : List ℕ) where
  widened : (a b c d why : Refusal) → IsAmong (a ∷ b ∷ c ∷ []) why → IsAmong (a ∷ b ∷ c ∷ d ∷ []) why
  widened a b c d why (inl e) = inl e
  widened a b c d why (inr (inl e)) = inr (inl e)
  widened a b c d why (inr (inr (inl e))) = inr (inr (inl e))
  widened a b c d why (inr (inr (inr e))) = absurd e

  pub split_refused : (why : Refusal) → reply.Refused why ≡ (split_at m key).0 → IsAmong split_refusals why
  split_refused why e = by (slot_of m.slots key) e
    where
      cause : (slot : ℕ) (s : SlotState) → (split_refusal m slot key s ≡ Some why) ⊎ (reply.Refused why ≡ (split_in_two m slot key s).0) → IsAmong split_refusals why
      cause slot s (inl is) =
          widened refusal.BadSplit refusal.SplitBusy refusal.NoSlot refusal.OutOfMemory why
          (among_causes ((begins_at key s, refusal.BadSplit) ∷ (list_any (is_prepared_at slot) m.transactions, refusal.SplitBusy) ∷ (nat_le most_slots (length m.slots), refusal.NoSlot) ∷ []) why is)
      cause slot s (inr f) = absurd (refused_split why (length m.slots) f)

      here : (slot : ℕ) (o : Option SlotState) → reply.Refused why ≡ (if_some o (refused m refusal.NoSlot) (split_slot m slot key)).0 → IsAmong split_refusals why
      here slot None f = inr (inr (inl (refused_same why refusal.NoSlot f)))
      here slot (Some s) f = cause slot s (unless_cause m (split_refusal m slot key s) (split_in_two m slot key s) why f)

      by : (o : Option ℕ) → reply.Refused why ≡ (if_some o (refused m refusal.BadSplit) (λ slot. for_slot m slot (split_slot m slot key))).0 → IsAmong split_refusals why
      by None f = inl (refused_same why refusal.BadSplit f)
      by (Some slot) f = here slot (slice_get m.slots slot) f

  -- a slot that may be cut is in use, and not all that there may be are
  pub cut_within : (slot : ℕ) (s : SlotState) → slice_get m.slots slot ≡ Some s → split_refusal m slot key s ≡ None → (slot < length m.slots) × (length m.slots < most_slots)
  cut_within slot s there accepted =
      let full : nat_le most_slots (length m.slots) ≡ false = (may_split (begins_at key s) (list_any (is_prepared_at slot) m.transactions) (nat_le most_slots (length m.slots)) accepted).2 in
      (slice_get_within m.slots slot s there, leb-false most_slots (length m.slots) full)

  -- the new slot is not the first, and there may be that many
  pub split_number : (n : ℕ) → reply.Split n ≡ (split_at m key).0 → (1 ≤ n) × (n < most_slots)
  split_number n e = by (slot_of m.slots key) e
    where
      last : (slot : ℕ) (s : SlotState) → slice_get m.slots slot ≡ Some s → (o : Option Refusal) → split_refusal m slot key s ≡ o → reply.Split n ≡ (unless_refused m o (split_in_two m slot key s)).0 → (1 ≤ n) × (n < most_slots)
      last slot s there (Some why) is f = absurd (refused_split why n (sym f))
      last slot s there None is f =
          let number : n ≡ length m.slots = split_same n (length m.slots) f in
          let within = cut_within slot s there is in
          (omega (arith, number, within.0), omega (arith, number, within.1))

      here : (slot : ℕ) (o : Option SlotState) → slice_get m.slots slot ≡ o → reply.Split n ≡ (if_some o (refused m refusal.NoSlot) (split_slot m slot key)).0 → (1 ≤ n) × (n < most_slots)
      here slot None is f = absurd (refused_split refusal.NoSlot n (sym f))
      here slot (Some s) is f = last slot s is (split_refusal m slot key s) refl f

      by : (o : Option ℕ) → reply.Split n ≡ (if_some o (refused m refusal.BadSplit) (λ slot. for_slot m slot (split_slot m slot key))).0 → (1 ≤ n) × (n < most_slots)
      by None f = absurd (refused_split refusal.BadSplit n (sym f))
      by (Some slot) f = here slot (slice_get m.slots slot) refl f

-- ---- transactions

module _ (m : Machine) (owner : ℕ) (ms : List CheckedMutation) where
  pub begin_refused : (why : Refusal) → reply.Refused why ≡ (begin m owner ms).0 → IsAmong begin_refusals why
  begin_refused why e = by (unless_cause m (begin_refusal m) (begun m owner ms) why e)
    where
      full : IsAmong (refusal.TransactionTableFull ∷ refusal.LogFull ∷ []) why → IsAmong begin_refusals why
      full (inl f) = inl f
      full (inr (inl f)) = inr (inl f)
      full (inr (inr f)) = absurd f

      by : (begin_refusal m ≡ Some why) ⊎ (reply.Refused why ≡ (begun m owner ms).0) → IsAmong begin_refusals why
      by (inl is) = full (among_causes ((nat_le most_transactions (length m.transactions) || nat_le number_end m.next_transaction, refusal.TransactionTableFull) ∷ (nat_le most_commits (length m.log + count_by is_undecided m.transactions), refusal.LogFull) ∷ []) why is)
      by (inr f) = absurd (refused_began why m.next_transaction f)

module _ (m : Machine) (owner txn slot : ℕ) (interval : Interval) where
  pub apply_refused : (why : Refusal) → reply.Refused why ≡ (apply_step m owner txn slot interval).0 → IsAmong apply_refusals why
  apply_refused why e = by (find (is_transaction owner txn) m.transactions) e
    where
      ends : (t : OpenTransaction) (d : Decision) → reply.Refused why ≡ (applied_at d m owner txn slot t).0 → IsAmong apply_refusals why
      ends t decision.Undecided f = inr (inr (inl (refused_same why refusal.WrongState f)))
      ends t decision.Aborted f = absurd (refused_applied why f)
      ends t (decision.Committed ts) f = absurd (refused_applied why f)

      cause : (t : OpenTransaction) → (apply_refusal slot t interval ≡ Some why) ⊎ (reply.Refused why ≡ (applied_at t.decision m owner txn slot t).0) → IsAmong apply_refusals why
      cause t (inl is) = inr (inr (among_causes ((is_undecided t || not (is_prepared_at slot t), refusal.WrongState) ∷ (is_early interval t.decision, refusal.TooEarly) ∷ []) why is))
      cause t (inr f) = ends t t.decision f

      here : (t : OpenTransaction) (o : Option SlotState) → reply.Refused why ≡ (if_some o (refused m refusal.NoSlot) (apply_transaction m owner txn slot interval t)).0 → IsAmong apply_refusals why
      here t None f = inl (refused_same why refusal.NoSlot f)
      here t (Some s) f = cause t (unless_cause m (apply_refusal slot t interval) (applied_at t.decision m owner txn slot t) why f)

      by : (o : Option OpenTransaction) → reply.Refused why ≡ (if_some o (refused m refusal.UnknownTransaction) (λ t. for_slot m slot (apply_transaction m owner txn slot interval t))).0 → IsAmong apply_refusals why
      by None f = inr (inl (refused_same why refusal.UnknownTransaction f))
      by (Some t) f = here t (slice_get m.slots slot) f

module _ (schema : List Table) (m : Machine) (owner txn : ℕ) (interval : Interval) where
  abbrev state_refusal : OpenTransaction → Option Refusal
  state_refusal t = first_cause ((not (is_undecided t), refusal.WrongState) ∷ [])

  pub abort_refused : (why : Refusal) → reply.Refused why ≡ (decide schema m owner txn verdict.Abort interval).0 → IsAmong abort_refusals why
  abort_refused why e = by (find (is_transaction owner txn) m.transactions) e
    where
      cause : (t : OpenTransaction) → (state_refusal t ≡ Some why) ⊎ (reply.Refused why ≡ (aborted m owner txn t).0) → IsAmong abort_refusals why
      cause t (inl is) = inr (among_causes ((not (is_undecided t), refusal.WrongState) ∷ []) why is)
      cause t (inr f) = absurd (refused_aborted why f)

      by : (o : Option OpenTransaction) → reply.Refused why ≡ (if_some o (refused m refusal.UnknownTransaction) (decide_transaction schema m owner txn verdict.Abort interval)).0 → IsAmong abort_refusals why
      by None f = inl (refused_same why refusal.UnknownTransaction f)
      by (Some t) f = cause t (unless_cause m (state_refusal t) (aborted m owner txn t) why f)

  pub commit_refused : (why : Refusal) → reply.Refused why ≡ (decide schema m owner txn verdict.Commit interval).0 → IsAmong decide_refusals why
  commit_refused why e = by (find (is_transaction owner txn) m.transactions) e
    where
      cause : (t : OpenTransaction) → (commit_refusal schema m t interval ≡ Some why) ⊎ (reply.Refused why ≡ (committed m owner txn (commit_timestamp m t interval) t).0) → IsAmong decide_refusals why
      cause t (inl is) = inr (among_causes ((not (is_undecided t) || not (is_all_prepared schema m t), refusal.WrongState) ∷ (nat_le timestamp_end (commit_timestamp m t interval), refusal.TimestampRange) ∷ []) why is)
      cause t (inr f) = absurd (refused_decided why (commit_timestamp m t interval) f)

      by : (o : Option OpenTransaction) → reply.Refused why ≡ (if_some o (refused m refusal.UnknownTransaction) (decide_transaction schema m owner txn verdict.Commit interval)).0 → IsAmong decide_refusals why
      by None f = inl (refused_same why refusal.UnknownTransaction f)
      by (Some t) f = cause t (unless_cause m (commit_refusal schema m t interval) (committed m owner txn (commit_timestamp m t interval) t) why f)

  -- an abort commits nothing
  pub abort_undecided : (ts : ℕ) → reply.Decided ts ≡ (decide schema m owner txn verdict.Abort interval).0 → ⊥
  abort_undecided ts e = by (find (is_transaction owner txn) m.transactions) e
    where
      ends : (t : OpenTransaction) (o : Option Refusal) → reply.Decided ts ≡ (unless_refused m o (aborted m owner txn t)).0 → ⊥
      ends t (Some why) f = refused_decided why ts (sym f)
      ends t None f = decided_aborted ts f

      by : (o : Option OpenTransaction) → reply.Decided ts ≡ (if_some o (refused m refusal.UnknownTransaction) (decide_transaction schema m owner txn verdict.Abort interval)).0 → ⊥
      by None f = refused_decided refusal.UnknownTransaction ts (sym f)
      by (Some t) f = ends t (state_refusal t) f

module _ (schema : List Table) (rules : MeetsRules schema) (m : Machine) (reached : IsReached schema m) (owner txn slot : ℕ) where
  -- what mutations are refused with on the tables of the log
  mutation_fault : (ms : List CheckedMutation) (why : Refusal) → mutations_refusal schema m ms ≡ Some why → is_mutation_fault why ≡ true
  mutation_fault ms why e =
      let t = reached_tables schema rules m (timestamp_end - 1) reached in
      by t.0 (apply schema t.0 ms) refl (sym (ap (λ (r : Result (List TableRow) Refusal). refusal_of (and_then r (λ db. apply schema db ms))) t.1) ∙ e)
    where
      by : (db : List TableRow) (r : Result (List TableRow) Refusal) → apply schema db ms ≡ r → refusal_of r ≡ Some why → is_mutation_fault why ≡ true
      by db (Ok after) is f = absurd (none-some why f)
      by db (Err w) is f = faults_are_named schema db ms why (is ∙ ap (λ (x : Refusal). Err x) (same_Some w why f))

  -- what is left of a prepare, cause by cause
  abbrev range_refusal : SlotState → Option Refusal
  range_refusal s = first_cause ((nat_le timestamp_end (prepare_timestamp s), refusal.TimestampRange) ∷ [])

  abbrev last : SlotState → Answer
  last s = unless_refused m (range_refusal s) (prepared m owner txn slot s)

  abbrev rest : SlotState → List CheckedMutation → Answer
  rest s ms = unless_refused m (mutations_refusal schema m ms) (unless_refused m (capacity_refusal schema m slot s ms) (last s))

  pub prepare_refused : (why : Refusal) → reply.Refused why ≡ (prepare schema m owner txn slot).0 → IsPrepareRefusal why
  prepare_refused why e = by (find (is_transaction owner txn) m.transactions) e
    where
      ranged : (s : SlotState) → (range_refusal s ≡ Some why) ⊎ (reply.Refused why ≡ (prepared m owner txn slot s).0) → IsPrepareRefusal why
      ranged s (inl is) = inl (late (among_causes ((nat_le timestamp_end (prepare_timestamp s), refusal.TimestampRange) ∷ []) why is))
        where
          late : IsAmong (refusal.TimestampRange ∷ []) why → IsAmong prepare_refusals why
          late (inl f) = inr (inr (inr (inr (inr (inl f)))))
          late (inr f) = absurd f
      ranged s (inr f) = absurd (refused_prepared why (prepare_timestamp s) f)

      crowded : (s : SlotState) (ms : List CheckedMutation) → (capacity_refusal schema m slot s ms ≡ Some why) ⊎ (reply.Refused why ≡ (last s).0) → IsPrepareRefusal why
      crowded s ms (inl is) = inl (full (among_causes ((nat_lt kept.most_versions (kept.live_with schema m.log m.transactions slot s ms), refusal.ShardFull) ∷ []) why is))
        where
          full : IsAmong (refusal.ShardFull ∷ []) why → IsAmong prepare_refusals why
          full (inl f) = inr (inr (inr (inr (inl f))))
          full (inr f) = absurd f
      crowded s ms (inr f) = ranged s (unless_cause m (range_refusal s) (prepared m owner txn slot s) why f)

      faulty : (s : SlotState) (ms : List CheckedMutation) → (mutations_refusal schema m ms ≡ Some why) ⊎ (reply.Refused why ≡ (unless_refused m (capacity_refusal schema m slot s ms) (last s)).0) → IsPrepareRefusal why
      faulty s ms (inl is) = inr (mutation_fault ms why is)
      faulty s ms (inr f) = crowded s ms (unless_cause m (capacity_refusal schema m slot s ms) (last s) why f)

      cause : (t : OpenTransaction) (s : SlotState) → (prepare_refusal schema m slot t s ≡ Some why) ⊎ (reply.Refused why ≡ (rest s (mutations_in schema s t.mutations)).0) → IsPrepareRefusal why
      cause t s (inl is) = inl (wrong (among_causes ((not (is_undecided t) || is_prepared_at slot t || (length (mutations_in schema s t.mutations) == 0), refusal.WrongState) ∷ (has_conflict schema m slot (mutations_in schema s t.mutations), refusal.Conflict) ∷ []) why is))
        where
          wrong : IsAmong (refusal.WrongState ∷ refusal.Conflict ∷ []) why → IsAmong prepare_refusals why
          wrong (inl f) = inr (inr (inl f))
          wrong (inr (inl f)) = inr (inr (inr (inl f)))
          wrong (inr (inr f)) = absurd f
      cause t s (inr f) = faulty s (mutations_in schema s t.mutations) (unless_cause m (mutations_refusal schema m (mutations_in schema s t.mutations)) (unless_refused m (capacity_refusal schema m slot s (mutations_in schema s t.mutations)) (last s)) why f)

      here : (t : OpenTransaction) (o : Option SlotState) → reply.Refused why ≡ (if_some o (refused m refusal.NoSlot) (prepare_transaction schema m owner txn slot t)).0 → IsPrepareRefusal why
      here t None f = inl (inl (refused_same why refusal.NoSlot f))
      here t (Some s) f = cause t s (unless_cause m (prepare_refusal schema m slot t s) (rest s (mutations_in schema s t.mutations)) why f)

      by : (o : Option OpenTransaction) → reply.Refused why ≡ (if_some o (refused m refusal.UnknownTransaction) (λ t. for_slot m slot (prepare_transaction schema m owner txn slot t))).0 → IsPrepareRefusal why
      by None f = inl (inr (inl (refused_same why refusal.UnknownTransaction f)))
      by (Some t) f = here t (slice_get m.slots slot) f
