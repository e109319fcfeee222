-- What a call answers that takes a step of the journal: the machine's reply to that step, on a machine that the journal may be when its
-- lock is taken.
use Rattle.std.specs.Prelude.{◌≡◌, ◌⊎◌, ℕ, true, List, [], ◌∷◌, ◌++◌, find, Some, Result, Ok, Err}
use Rattle.span_value.specs.declared.refusal.Refusal.{Refusal}
use Rattle.span_value.specs.declared.refusal.Refusal.TheVariants.{OutOfMemory, UnknownTransaction, WrongState, Conflict, LogFull, ShardFull, TooEarly, TimestampRange, TransactionTableFull, BadSplit, SplitBusy, NoSlot, TrimTooNew, TrimBackward}
use Rattle.span_schema.specs.declared.table.Table.{Table}
use Rattle.span_schema.specs.Lineages.{MeetsRules}
use Rattle.span_mutate.specs.declared.mutation.CheckedMutation.{CheckedMutation}
use Rattle.span_mutate.specs.Faults.{is_mutation_fault}
use Rattle.span_truetime.specs.declared.interval.Interval.{Interval}
use Rattle.span_machine.specs.declared.transaction.OpenTransaction.{OpenTransaction}
use Rattle.span_machine.specs.declared.step.Reply.{Reply}
use Rattle.span_machine.specs.declared.step.Reply.TheVariants.{Refused}
use Rattle.span_machine.specs.declared.step.Verdict.{Verdict}
use Rattle.span_machine.specs.declared.step.Verdict.TheVariants as verdict
use Rattle.span_machine.specs.Machine.{Machine, Answer, begin, prepare, decide, for_slot, is_transaction}
use Rattle.span_machine_laws.proofs.Reached.{IsReached}
use Rattle.span_parts.specs.Whole.{Shards, AreAllKept}
use Rattle.span_board.specs.Known.{Known}
use Rattle.span_board.specs.Rule.{SessionHistory, IsBegunAt, HasNotBegun}

-- ---- replies

-- The machine goes with what the rule knows of the journal: a run reaches it, its log is the one that is known, and its slots, the first of
-- those that are known, keep what these are to have.
pub record IsMachineOf (schema : List Table) (known : Known) (m : Machine) : Type 0 where
  pub rules : MeetsRules schema
  pub reached : IsReached schema m
  pub log : known.commits ≡ m.log
  pub used : Shards
  pub spare : Shards
  pub slots : known.slots ≡ used ++ spare
  pub kept : AreAllKept schema m used

-- a machine that goes with what is known replies this to the step
pub record Replies (schema : List Table) (known : Known) (step : Machine → Answer) (r : Reply) : Type 0 where
  pub machine : Machine
  pub goes : IsMachineOf schema known machine
  pub is : r ≡ (step machine).0

-- the same, or memory ran out
abbrev pub MayReply : List Table → Known → (Machine → Answer) → Reply → Type 0
MayReply schema known step r = (r ≡ Refused OutOfMemory) ⊎ Replies schema known step r

-- the same of a call that takes the journal's lock: what is known then it doesn't say
abbrev pub RepliesOnce : List Table → (Machine → Answer) → Reply → Type 0
RepliesOnce schema step r = (known : Known) × Replies schema known step r

abbrev pub MayReplyOnce : List Table → (Machine → Answer) → Reply → Type 0
MayReplyOnce schema step r = (r ≡ Refused OutOfMemory) ⊎ RepliesOnce schema step r

-- where the slot is not in use, that comes first
abbrev pub at_slot : ℕ → (Machine → Answer) → Machine → Answer
at_slot slot step m = for_slot m slot (λ _. step m)

-- the same of a call that takes a slot's lock too: there may be no slot of the number
abbrev pub RepliesAt : List Table → ℕ → (Machine → Answer) → Reply → Type 0
RepliesAt schema slot step r = (r ≡ Refused NoSlot) ⊎ RepliesOnce schema (at_slot slot step) r

abbrev pub MayReplyAt : List Table → ℕ → (Machine → Answer) → Reply → Type 0
MayReplyAt schema slot step r = (r ≡ Refused OutOfMemory) ⊎ RepliesAt schema slot step r

-- ---- decisions

-- the machine has no open transaction of the owner under the number with these mutations
abbrev pub LacksTransaction : Machine → ℕ → ℕ → List CheckedMutation → Type 0
LacksTransaction m owner txn ms =
    (t : OpenTransaction) → find (is_transaction owner txn) m.transactions ≡ Some t → t.mutations ≡ ms → ⊥

-- What a decision to commit mutations is answered: `UnknownTransaction` where a machine that goes with what is known has no such transaction;
-- else the machine's reply.
abbrev pub RepliesToCommit : List Table → Known → ℕ → ℕ → List CheckedMutation → Interval → Reply → Type 0
RepliesToCommit schema known owner txn ms interval r =
    ((r ≡ Refused UnknownTransaction) × ((m : Machine) × IsMachineOf schema known m × LacksTransaction m owner txn ms))
    ⊎ Replies schema known (λ m. decide schema m owner txn verdict.Commit interval) r

-- the same of a call that takes the journal's lock
abbrev pub RepliesToCommitOnce : List Table → ℕ → ℕ → List CheckedMutation → Interval → Reply → Type 0
RepliesToCommitOnce schema owner txn ms interval r =
    (known : Known) × RepliesToCommit schema known owner txn ms interval r

-- the same of what a session has begun under a number
pub record RepliesToBegun (schema : List Table) (session : SessionHistory) (number : ℕ) (interval : Interval)
    (r : Reply) : Type 0 where
  pub place : ℕ
  pub at : IsBegunAt session number place
  pub replies : RepliesToCommitOnce schema session.owner number at.begun.mutations interval r

-- what a decision of what a session has begun under a number is answered by this reading of the clock
abbrev pub RepliesToVerdict : List Table → SessionHistory → ℕ → Verdict → Interval → Reply → Type 0
RepliesToVerdict schema session number verdict.Commit interval r = RepliesToBegun schema session number interval r
RepliesToVerdict schema session number verdict.Abort interval r =
    RepliesOnce schema (λ m. decide schema m session.owner number verdict.Abort interval) r

-- what a session's decision is answered: `UnknownTransaction` where it has begun nothing under the number; else by a reading that the clock
-- may give
abbrev pub RepliesToDecision : List Table → SessionHistory → ℕ → Verdict → (Interval → Type 0) → Reply → Type 0
RepliesToDecision schema session number v gives r =
    ((r ≡ Refused UnknownTransaction) × HasNotBegun session number)
    ⊎ ((read : Interval) × gives read × RepliesToVerdict schema session number v read r)

-- ---- commits of a session

-- the machine refuses so to begin the mutations, or memory ran out
abbrev pub IsBeginRefused : List Table → ℕ → List CheckedMutation → Refusal → Type 0
IsBeginRefused schema owner ms why = MayReplyOnce schema (λ m. begin m owner ms) (Refused why)

-- the machine refuses so to prepare the transaction at a slot, which may not be in use, or memory ran out
abbrev pub IsPrepareRefused : List Table → ℕ → ℕ → Refusal → Type 0
IsPrepareRefused schema owner txn why =
    (slot : ℕ) × MayReplyOnce schema (at_slot slot (λ m. prepare schema m owner txn slot)) (Refused why)

-- What was begun under a number is not committed: it is not prepared at a slot, or a decision to commit it is refused by a reading that the
-- clock may give.
abbrev pub IsUndecided : List Table → ℕ → ℕ → List CheckedMutation → (Interval → Type 0) → Refusal → Type 0
IsUndecided schema owner txn ms gives why =
    IsPrepareRefused schema owner txn why
    ⊎ ((read : Interval) × gives read × RepliesToCommitOnce schema owner txn ms read (Refused why))

-- why mutations are not committed: they are not begun, or what was begun under a number is not decided
abbrev pub IsUncommitted : List Table → ℕ → List CheckedMutation → (Interval → Type 0) → Refusal → Type 0
IsUncommitted schema owner ms gives why =
    IsBeginRefused schema owner ms why ⊎ ((txn : ℕ) × IsUndecided schema owner txn ms gives why)

-- ---- refusals

abbrev pub IsAmong : List Refusal → Refusal → Type 0
IsAmong [] why = ⊥
IsAmong (r ∷ rs) why = (why ≡ r) ⊎ IsAmong rs why

-- the result is one of these refusals
abbrev pub IsErrAmong : {A : Type 0} → List Refusal → Result A Refusal → Type 0
IsErrAmong rs (Ok x) = ⊥
IsErrAmong rs (Err why) = IsAmong rs why

-- why a transaction is not begun
abbrev pub begin_refusals : List Refusal
begin_refusals = TransactionTableFull ∷ LogFull ∷ OutOfMemory ∷ []

-- why a transaction is not prepared at a slot: one of these, or what its mutations are refused with
abbrev pub prepare_refusals : List Refusal
prepare_refusals =
    NoSlot ∷ UnknownTransaction ∷ WrongState ∷ Conflict ∷ ShardFull ∷ TimestampRange ∷ OutOfMemory ∷ []

abbrev pub IsPrepareRefusal : Refusal → Type 0
IsPrepareRefusal why = IsAmong prepare_refusals why ⊎ (is_mutation_fault why ≡ true)

-- why it is not applied there
abbrev pub apply_refusals : List Refusal
apply_refusals = NoSlot ∷ UnknownTransaction ∷ WrongState ∷ TooEarly ∷ []

-- why it is not aborted
abbrev pub abort_refusals : List Refusal
abort_refusals = UnknownTransaction ∷ WrongState ∷ []

-- why it is not decided
abbrev pub decide_refusals : List Refusal
decide_refusals = UnknownTransaction ∷ WrongState ∷ TimestampRange ∷ []

-- why mutations are not committed: what begins them is refused, what prepares them at a slot, or what decides them
abbrev pub IsCommitRefusal : Refusal → Type 0
IsCommitRefusal why = IsAmong begin_refusals why ⊎ IsPrepareRefusal why ⊎ IsAmong decide_refusals why

-- why a slot is not cut
abbrev pub split_refusals : List Refusal
split_refusals = BadSplit ∷ SplitBusy ∷ NoSlot ∷ OutOfMemory ∷ []

-- why it is not trimmed
abbrev pub trim_refusals : List Refusal
trim_refusals = NoSlot ∷ TrimBackward ∷ TrimTooNew ∷ []
