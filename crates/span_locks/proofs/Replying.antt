-- The journal under its lock is a machine that goes with what the rule knows of it, and its reply is the answer.
use Rattle.std.proofs.Common.{◌≡◌, ◌⊎◌, ◌≤◌, ◌<◌, ℕ, List, [], ◌∷◌, length, Option, Some, None, Result, Ok, Err, refl, sym, ap, ◌∙◌, subst, inl, inr, arith}
use Rattle.std.specs.Prelude.{slice_get, slice_set, IfOk, IfErr, IfSome, MatchOption}
use Rattle.std.proofs.lemmas.Option.{slice_get-get_or}
use Rattle.atomic_table.specs.Seated.{TableId}
use Rattle.span_value.specs.declared.refusal.Refusal.{Refusal}
use Rattle.span_value.specs.declared.refusal.Refusal.TheVariants as refusal
use Rattle.span_schema.specs.declared.table.Table.{Table}
use Rattle.span_mutate.specs.declared.mutation.CheckedMutation.{CheckedMutation}
use Rattle.span_truetime.specs.declared.interval.Interval.{Interval}
use Rattle.span_arena.specs.Limits.{most_nodes}
use Rattle.span_shard.specs.KeyVersions.{KeyVersions}
use Rattle.span_shard.specs.Shard as shard
use Rattle.span_machine.specs.declared.slot.SlotState.{SlotState}
use Rattle.span_machine.specs.declared.step.Reply.{Reply}
use Rattle.span_machine.specs.declared.step.Reply.TheVariants as reply
use Rattle.span_machine.specs.declared.step.Verdict.{Verdict}
use Rattle.span_machine.specs.declared.step.Verdict.TheVariants as verdict
use Rattle.span_machine.specs.Kept as kept
use Rattle.span_machine.specs.Limits.{most_slots}
use Rattle.span_machine.specs.Machine.{Machine, Answer, Answers, IsAnswer, refused, if_some, unless_refused, first_slot, begin, prepare, decide, apply_step, advance, trim, trim_refusal, trim_slot, trimmed, with_horizon, split_at}
use Rattle.span_machine.specs.Pieces.{Journaled, machine_of}
use Rattle.span_journal.specs.Judged.{MaySplit}
use Rattle.span_parts.specs.Replies.{as_reply, decision_reply}
use Rattle.span_parts.specs.Whole.{IsWhole, BelongsAt, GoesAt}
use Rattle.span_parts.proofs.Applying.{live_here}
use Rattle.span_parts.proofs.Changes.{set_there}
use Rattle.span_board.specs.declared.begun.Begun.{Begun}
use Rattle.span_board.specs.declared.board.Role.{Role}
use Rattle.span_locks.specs.Held.{IsKeeper}
use Rattle.span_board.specs.Known.{Known}
use Rattle.span_board.specs.Rule.{SessionHistory, IsBegunAt, known_at}
use Rattle.span_locks.specs.Replies.{IsMachineOf, Replies, MayReply, RepliesOnce, MayReplyOnce, RepliesAt, MayReplyAt, at_slot, RepliesToCommit, RepliesToCommitOnce, RepliesToBegun, RepliesToVerdict, RepliesToDecision, IsBeginRefused, IsPrepareRefused, IsUndecided, IsUncommitted, IsAmong, IsPrepareRefusal, IsCommitRefusal, begin_refusals, apply_refusals, abort_refusals, decide_refusals, split_refusals, IsErrAmong}
use Rattle.span_locks.proofs.Refusals.{refused_same, at_slot_cause, advance_refused, advance_floor, split_refused, split_number, cut_within, apply_refused, begin_refused, commit_refused, abort_refused, abort_undecided, prepare_refused}

-- ---- slots of a machine

module _ (m : Machine) (slot : ℕ) (step : Machine → Answer) where
  pub at_used : slot < length m.slots → at_slot slot step m ≡ step m
  at_used within = ap (λ (o : Option SlotState). if_some o (refused m refusal.NoSlot) (λ _. step m)) (slice_get-get_or m.slots slot first_slot within)

-- the machine's answer, or out of memory
pub answers_may : (m : Machine) (a : Answer) (r : Reply) (n : Machine) → Answers m a r n → (r ≡ reply.Refused refusal.OutOfMemory) ⊎ (r ≡ a.0)
answers_may m a r n (inl e) = inr e.0
answers_may m a r n (inr e) = inl e.0

-- ---- the keeper

module _ (schema : List Table) (table here : TableId) (views : List (List Role)) (j : Journaled) (keeper : IsKeeper schema table here views j) (known : Known) (is : known_at views ≡ known) where
  pub machine_goes : IsMachineOf schema known (machine_of j)
  machine_goes = subst (λ (k : Known). IsMachineOf schema k (machine_of j)) is
      (record {
        rules = keeper.whole.rules;
        reached = keeper.whole.reached;
        log = keeper.log;
        used = keeper.used;
        spare = keeper.spare;
        slots = keeper.slots;
        kept = keeper.whole.kept;
      })

  pub replies : (step : Machine → Answer) (r : Reply) → r ≡ (step (machine_of j)).0 → Replies schema known step r
  replies step r e = record { machine = machine_of j; goes = machine_goes; is = e }

  pub may_reply : (step : Machine → Answer) (r : Reply) → (r ≡ reply.Refused refusal.OutOfMemory) ⊎ (r ≡ (step (machine_of j)).0) → MayReply schema known step r
  may_reply step r (inl e) = inl e
  may_reply step r (inr e) = inr (replies step r e)

  -- at a slot that is in use
  pub used_replies : (slot : ℕ) → slot < length j.slots → (step : Machine → Answer) (r : Reply) → r ≡ (step (machine_of j)).0 → Replies schema known (at_slot slot step) r
  used_replies slot within step r e = replies (at_slot slot step) r (e ∙ sym (ap (λ (a : Answer). a.0) (at_used (machine_of j) slot step within)))

  pub used_may_reply : (slot : ℕ) → slot < length j.slots → (step : Machine → Answer) (r : Reply) → (r ≡ reply.Refused refusal.OutOfMemory) ⊎ (r ≡ (step (machine_of j)).0) → MayReply schema known (at_slot slot step) r
  used_may_reply slot within step r (inl e) = inl e
  used_may_reply slot within step r (inr e) = inr (used_replies slot within step r e)

-- ---- what a trim keeps

trimmed_same : (a b : ℕ) → reply.Trimmed a ≡ reply.Trimmed b → a ≡ b
trimmed_same a b e = cc

refused_trimmed : (a : Refusal) (n : ℕ) → reply.Trimmed n ≡ reply.Refused a → ⊥
refused_trimmed a n e = absurd (cc e)

module _ (schema : List Table) (j k : Journaled) (slot h : ℕ) (before after : List KeyVersions) (belongs : BelongsAt schema j slot before) (goes : GoesAt schema slot j k before after) (few : shard.live after ≤ most_nodes) where
  abbrev m : Machine
  m = machine_of j

  -- the number that is answered is that of the versions that the shard has
  trimmed_few : (n : ℕ) → IsAnswer (trim schema m slot h) (reply.Trimmed n) (machine_of k) → n ≤ most_nodes
  trimmed_few n e = by (slice_get m.slots slot) refl e.0 e.1
    where
      last : (s : SlotState) → slice_get m.slots slot ≡ Some s → (o : Option Refusal) → reply.Trimmed n ≡ (unless_refused m o (trimmed schema m slot h s)).0 → machine_of k ≡ (unless_refused m o (trimmed schema m slot h s)).1 → n ≤ most_nodes
      last s there (Some why) is next = absurd (refused_trimmed why n is)
      last s there None is next =
          let whole : IsWhole schema k (slice_set belongs.0 slot after) = goes belongs.0 belongs.1 belongs.2 in
          let here : slice_get (machine_of k).slots slot ≡ Some (with_horizon h s) = ap (λ (x : Machine). slice_get x.slots slot) next ∙ set_there m.slots slot s (with_horizon h s) there in
          let has : slice_get (slice_set belongs.0 slot after) slot ≡ Some after = set_there belongs.0 slot before after belongs.2 in
          let number : n ≡ kept.live schema m.log m.transactions slot (with_horizon h s) = trimmed_same n (kept.live schema m.log m.transactions slot (with_horizon h s)) is in
          let same : kept.live schema (machine_of k).log (machine_of k).transactions slot (with_horizon h s) ≡ kept.live schema m.log m.transactions slot (with_horizon h s) = ap (λ (x : Machine). kept.live schema x.log x.transactions slot (with_horizon h s)) next in
          subst (λ (i : ℕ). i ≤ most_nodes) (live_here schema k (slice_set belongs.0 slot after) whole slot (with_horizon h s) after here has ∙ same ∙ sym number) few

      by : (o : Option SlotState) → slice_get m.slots slot ≡ o → reply.Trimmed n ≡ (if_some o (refused m refusal.NoSlot) (trim_slot schema m slot h)).0 → machine_of k ≡ (if_some o (refused m refusal.NoSlot) (trim_slot schema m slot h)).1 → n ≤ most_nodes
      by None there is next = absurd (refused_trimmed refusal.NoSlot n is)
      by (Some s) there is next = last s there (trim_refusal m slot h s) is next

  pub kept_few : (r : Result ℕ Refusal) → IsAnswer (trim schema m slot h) (as_reply reply.Trimmed r) (machine_of k) → IfOk r (λ n. n ≤ most_nodes)
  kept_few (Ok n) e = trimmed_few n e
  kept_few (Err why) e = tt

-- ---- calls of a database

pub may_once : (schema : List Table) (known : Known) (step : Machine → Answer) (r : Reply) → MayReply schema known step r → MayReplyOnce schema step r
may_once schema known step r (inl e) = inl e
may_once schema known step r (inr x) = inr (known, x)

-- a refusal of a call is among those of its step
module _ (schema : List Table) (slot : ℕ) where
  pub apply_refusal_is : {A : Type 0} (owner txn : ℕ) (interval : Interval) (r : Result A Refusal) → RepliesAt schema slot (λ m. apply_step m owner txn slot interval) (as_reply (λ _. reply.Applied) r) → IfErr r (IsAmong apply_refusals)
  apply_refusal_is owner txn interval (Ok n) x = tt
  apply_refusal_is owner txn interval (Err why) (inl e) = inl (refused_same why refusal.NoSlot e)
  apply_refusal_is owner txn interval (Err why) (inr x) = by (at_slot_cause x.1.machine slot (λ m. apply_step m owner txn slot interval) why x.1.is)
    where
      by : (why ≡ refusal.NoSlot) ⊎ (reply.Refused why ≡ (apply_step x.1.machine owner txn slot interval).0) → IsAmong apply_refusals why
      by (inl e) = inl e
      by (inr e) = apply_refused x.1.machine owner txn slot interval why e

  pub prepare_refusal_is : (owner txn : ℕ) (r : Result ℕ Refusal) → MayReplyAt schema slot (λ m. prepare schema m owner txn slot) (as_reply reply.Prepared r) → IfErr r IsPrepareRefusal
  prepare_refusal_is owner txn (Ok n) x = tt
  prepare_refusal_is owner txn (Err why) (inl e) = inl (inr (inr (inr (inr (inr (inr (inl (refused_same why refusal.OutOfMemory e))))))))
  prepare_refusal_is owner txn (Err why) (inr (inl e)) = inl (inl (refused_same why refusal.NoSlot e))
  prepare_refusal_is owner txn (Err why) (inr (inr x)) = by (at_slot_cause x.1.machine slot (λ m. prepare schema m owner txn slot) why x.1.is)
    where
      by : (why ≡ refusal.NoSlot) ⊎ (reply.Refused why ≡ (prepare schema x.1.machine owner txn slot).0) → IsPrepareRefusal why
      by (inl e) = inl (inl e)
      by (inr e) = prepare_refused schema x.1.goes.rules x.1.machine x.1.goes.reached owner txn slot why e

  pub advance_refusal_is : (interval : Interval) (r : Result ℕ Refusal) → RepliesOnce schema (λ m. advance m slot interval) (as_reply reply.Floor r) → IfErr r (λ why. why ≡ refusal.NoSlot)
  advance_refusal_is interval (Ok n) x = tt
  advance_refusal_is interval (Err why) x = advance_refused x.1.machine slot interval why x.1.is

  pub prepare_why_is : (owner txn : ℕ) (why : Refusal) → MayReplyAt schema slot (λ m. prepare schema m owner txn slot) (reply.Refused why) → IsPrepareRefusal why
  prepare_why_is owner txn why x = prepare_refusal_is owner txn (Err why) x

module _ (schema : List Table) (owner : ℕ) (ms : List CheckedMutation) where
  pub begin_why_is : (why : Refusal) → IsBeginRefused schema owner ms why → IsAmong begin_refusals why
  begin_why_is why (inl e) = inr (inr (inl (refused_same why refusal.OutOfMemory e)))
  begin_why_is why (inr x) = begin_refused x.1.machine owner ms why x.1.is

  pub begin_refusal_is : (r : Result ℕ Refusal) → MayReplyOnce schema (λ m. begin m owner ms) (as_reply reply.Began r) → IfErr r (IsAmong begin_refusals)
  begin_refusal_is (Ok n) x = tt
  begin_refusal_is (Err why) x = begin_why_is why x

  pub commit_why_is : (txn : ℕ) (interval : Interval) (why : Refusal) → RepliesToCommitOnce schema owner txn ms interval (reply.Refused why) → IsAmong decide_refusals why
  commit_why_is txn interval why x = by x.1
    where
      by : RepliesToCommit schema x.0 owner txn ms interval (reply.Refused why) → IsAmong decide_refusals why
      by (inl e) = inl (refused_same why refusal.UnknownTransaction e.0)
      by (inr y) = commit_refused schema y.machine owner txn interval why y.is

  pub uncommitted_is : (gives : Interval → Type 0) (why : Refusal) → IsUncommitted schema owner ms gives why → IsCommitRefusal why
  uncommitted_is gives why (inl e) = inl (begin_why_is why e)
  uncommitted_is gives why (inr x) = by x.1
    where
      at_a_slot : (slot : ℕ) → MayReplyOnce schema (at_slot slot (λ m. prepare schema m owner x.0 slot)) (reply.Refused why) → MayReplyAt schema slot (λ m. prepare schema m owner x.0 slot) (reply.Refused why)
      at_a_slot slot (inl e) = inl e
      at_a_slot slot (inr y) = inr (inr y)

      by : IsUndecided schema owner x.0 ms gives why → IsCommitRefusal why
      by (inl e) = inr (inl (prepare_why_is schema e.0 owner x.0 why (at_a_slot e.0 e.1)))
      by (inr e) = inr (inr (commit_why_is x.0 e.0 why e.2))

module _ (schema : List Table) (owner txn : ℕ) (interval : Interval) where
  pub abort_refusal_is : (r : Result (Option ℕ) Refusal) → RepliesOnce schema (λ m. decide schema m owner txn verdict.Abort interval) (as_reply decision_reply r) → IfErr r (IsAmong abort_refusals)
  abort_refusal_is (Ok o) x = tt
  abort_refusal_is (Err why) x = abort_refused schema x.1.machine owner txn interval why x.1.is

  pub abort_none_is : (r : Result (Option ℕ) Refusal) → RepliesOnce schema (λ m. decide schema m owner txn verdict.Abort interval) (as_reply decision_reply r) → IfOk r (λ o. o ≡ None)
  abort_none_is (Ok None) x = refl
  abort_none_is (Ok (Some ts)) x = absurd (abort_undecided schema x.1.machine owner txn interval ts x.1.is)
  abort_none_is (Err why) x = tt

-- ---- decisions

-- what a session has begun at a place is decided as of the number under which it has begun it
pub begun_replies : (schema : List Table) (known : Known) (session : SessionHistory) (number place : ℕ) (at : IsBegunAt session number place) (interval : Interval) (r : Reply)
    → IfSome (slice_get session.begun place) (λ b. RepliesToCommit schema known session.owner b.number b.mutations interval r) → RepliesToBegun schema session number interval r
begun_replies schema known session number place at interval r x =
    let is = subst (λ (o : Option Begun). IfSome o (λ b. RepliesToCommit schema known session.owner b.number b.mutations interval r)) at.there x in
    record {
      place = place;
      at = at;
      replies = (known, subst (λ (n : ℕ). RepliesToCommit schema known session.owner n at.begun.mutations interval r) at.numbered is);
    }

-- a transaction is not prepared under the locks of a slot and of the journal
pub prepare_is_refused : (schema : List Table) (known : Known) (owner txn slot : ℕ) (why : Refusal) → MayReply schema known (at_slot slot (λ m. prepare schema m owner txn slot)) (reply.Refused why)
    → IsPrepareRefused schema owner txn why
prepare_is_refused schema known owner txn slot why (inl e) = (slot, inl e)
prepare_is_refused schema known owner txn slot why (inr x) = (slot, inr (known, x))

-- a decision to commit is refused by a reading
pub undecided_by : (schema : List Table) (known : Known) (owner txn : ℕ) (ms : List CheckedMutation) (gives : Interval → Type 0) (read : Interval) → gives read → (r : Result ℕ Refusal)
    → RepliesToCommit schema known owner txn ms read (as_reply reply.Decided r) → IfErr r (IsUndecided schema owner txn ms gives)
undecided_by schema known owner txn ms gives read given (Ok ts) x = tt
undecided_by schema known owner txn ms gives read given (Err why) x = inr (read, given, (known, x))

module _ (schema : List Table) (session : SessionHistory) (number : ℕ) where
  abort_widened : (why : Refusal) → IsAmong abort_refusals why → IsAmong decide_refusals why
  abort_widened why (inl e) = inl e
  abort_widened why (inr (inl e)) = inr (inl e)
  abort_widened why (inr (inr e)) = absurd e

  verdict_why_is : (v : Verdict) (read : Interval) (why : Refusal) → RepliesToVerdict schema session number v read (reply.Refused why) → IsAmong decide_refusals why
  verdict_why_is verdict.Commit read why x = commit_why_is schema session.owner x.at.begun.mutations number read why x.replies
  verdict_why_is verdict.Abort read why x = abort_widened why (abort_refused schema x.1.machine session.owner number read why x.1.is)

  pub decision_refusal_is : (v : Verdict) (gives : Interval → Type 0) (r : Result (Option ℕ) Refusal) → RepliesToDecision schema session number v gives (as_reply decision_reply r) → IfErr r (IsAmong decide_refusals)
  decision_refusal_is v gives (Ok o) x = tt
  decision_refusal_is v gives (Err why) (inl e) = inl (refused_same why refusal.UnknownTransaction e.0)
  decision_refusal_is v gives (Err why) (inr e) = verdict_why_is v e.0 why e.2

module _ (schema : List Table) (key : List ℕ) where
  pub split_refusal_is : (r : Result ℕ Refusal) → MayReplyOnce schema (λ m. split_at m key) (as_reply reply.Split r) → IfErr r (IsAmong split_refusals)
  split_refusal_is (Ok n) x = tt
  split_refusal_is (Err why) (inl e) = inr (inr (inr (inl (refused_same why refusal.OutOfMemory e))))
  split_refusal_is (Err why) (inr x) = split_refused x.1.machine key why x.1.is

  pub split_number_is : (r : Result ℕ Refusal) → MayReplyOnce schema (λ m. split_at m key) (as_reply reply.Split r) → IfOk r (λ n. (1 ≤ n) × (n < most_slots))
  split_number_is (Ok n) (inl e) = absurd (split_memory n e)
    where
      split_memory : (i : ℕ) → reply.Split i ≡ reply.Refused refusal.OutOfMemory → ⊥
      split_memory i f = absurd (cc f)
  split_number_is (Ok n) (inr x) = split_number x.1.machine key n x.1.is
  split_number_is (Err why) x = tt

-- where a cut may be, two slots that there may be have its parts
pub places_within : (m : Machine) (key : List ℕ) (slot next : ℕ) → MaySplit m slot key → next ≡ length m.slots → (slot < most_slots) × (next < most_slots)
places_within m key slot next may last =
    let w = cut_within m key slot may.slot_state may.here may.accepted in
    (omega (arith, w.0, w.1), omega (arith, last, w.1))

-- ---- splits of a database

module _ (schema : List Table) where
  pub cut_number : (key : List ℕ) (n : ℕ) → RepliesOnce schema (λ m. split_at m key) (reply.Split n) → (1 ≤ n) × (n < most_slots)
  cut_number key n x = split_number_is schema key (Ok n) (inr x)

  pub cut_refusal : (key : List ℕ) (why : Refusal) → MayReplyOnce schema (λ m. split_at m key) (reply.Refused why) → IsAmong split_refusals why
  cut_refusal key why x = split_refusal_is schema key (Err why) x

  -- the name and the values have the coded key
  pub key_replies : (o : Option (List ℕ)) (code : List ℕ) (r : Result ℕ Refusal) → o ≡ Some code → MayReplyOnce schema (λ m. split_at m code) (as_reply reply.Split r)
      → MatchOption o (IsErrAmong (refusal.BadSplit ∷ refusal.OutOfMemory ∷ []) r) (λ key. MayReplyOnce schema (λ m. split_at m key) (as_reply reply.Split r))
  key_replies o code r is x = subst (λ (p : Option (List ℕ)). MatchOption p (IsErrAmong (refusal.BadSplit ∷ refusal.OutOfMemory ∷ []) r) (λ key. MayReplyOnce schema (λ m. split_at m key) (as_reply reply.Split r))) (sym is) x

  -- they have none, or memory ran out
  pub key_refused : (o : Option (List ℕ)) (why : Refusal) → (why ≡ refusal.OutOfMemory) ⊎ ((why ≡ refusal.BadSplit) × (o ≡ None))
      → MatchOption o (IsAmong (refusal.BadSplit ∷ refusal.OutOfMemory ∷ []) why) (λ key. MayReplyOnce schema (λ m. split_at m key) (reply.Refused why))
  key_refused None why (inl e) = inr (inl e)
  key_refused (Some key) why (inl e) = inl (ap reply.Refused e)
  key_refused o why (inr e) = subst (λ (p : Option (List ℕ)). MatchOption p (IsAmong (refusal.BadSplit ∷ refusal.OutOfMemory ∷ []) why) (λ key. MayReplyOnce schema (λ m. split_at m key) (reply.Refused why))) (sym e.1) (inl e.0)

  pub no_key_refusal : (o : Option (List ℕ)) (why : Refusal) → (why ≡ refusal.OutOfMemory) ⊎ ((why ≡ refusal.BadSplit) × (o ≡ None)) → IsAmong split_refusals why
  no_key_refusal o why (inl e) = inr (inr (inr (inl e)))
  no_key_refusal o why (inr e) = inl e.0

-- ---- readings of a clock

module _ (schema : List Table) (slot : ℕ) (gives : Interval → Type 0) (read : Interval) (given : gives read) where
  pub read_floor : (r : Result ℕ Refusal) → RepliesOnce schema (λ m. advance m slot read) (as_reply reply.Floor r) → IfOk r (λ floor. (i : Interval) × gives i × (i.latest ≤ floor))
  read_floor (Ok n) x = (read, given, advance_floor x.1.machine slot read n x.1.is)
  read_floor (Err why) x = tt
