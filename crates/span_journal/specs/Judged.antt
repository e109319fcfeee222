use Rattle.std.specs.List.{list_all}
use Rattle.std.specs.Prelude.{◌≡◌, ◌<◌, ℕ, false, true, nat_le, nat_lt, List, [], ◌∷◌, length, find, option_map, slice_get, slice_set, Option, Some, None, Result, Ok, Err, ◌⊎◌}
use Rattle.span_columns.specs.declared.leaf.Leaf.{Leaf}
use Rattle.span_fragment.specs.declared.piece.Piece.{Piece}
use Rattle.span_query.specs.declared.query.BoundQuery.{BoundQuery}
use Rattle.span_value.specs.declared.refusal.Refusal.{Refusal}
use Rattle.span_value.specs.declared.refusal.Refusal.TheVariants.{OutOfMemory, TimestampRange, UnknownTransaction, WrongState, NoSlot, NotYet}
use Rattle.span_schema.specs.declared.table.Table.{Table}
use Rattle.span_keycode.specs.declared.range.KeyRange.{KeyRange}
use Rattle.span_mutate.specs.declared.mutation.CheckedMutation.{CheckedMutation}
use Rattle.span_truetime.specs.declared.interval.Interval.{Interval}
use Rattle.span_truetime.specs.Limits.{timestamp_end}
use Rattle.span_machine.specs.declared.step.Reply.{Reply}
use Rattle.span_machine.specs.declared.step.Reply.TheVariants as reply
use Rattle.span_machine.specs.declared.slot.SlotState.{SlotState}
use Rattle.span_machine.specs.declared.query.ScanLeaf.{ScanLeaf}
use Rattle.span_machine.specs.declared.query.OpenQuery.{OpenQuery}
use Rattle.span_machine.specs.declared.transaction.OpenTransaction.{OpenTransaction}
use Rattle.span_value.specs.Results.{first_cause}
use Rattle.span_machine.specs.Limits.{most_slots}
use Rattle.span_machine.specs.Machine.{trim_refusal, Machine, if_some, is_transaction, is_query, mutations_in, prepare, prepare_refusal, prepare_timestamp, prepared, apply_refusal, applied_at, changed_first, without_first, is_covered, is_safe, with_risen_floor, scan, with_slot_state, gap_in, refused, slot_of, split_refusal}
use Rattle.span_machine.specs.Pieces.{Pieced, Journaled, covered_by, machine_of}
use Rattle.span_transactions.specs.States.{decision_of, has_wrong_state}
use Rattle.span_openqueries.specs.Targets.{is_free, taken_of}
use Rattle.span_journal.specs.Scans.{register_refusal, IsRisen}
use Rattle.span_journal.specs.declared.journal.Gap.{Gap}
use Rattle.span_journal.specs.declared.journal.Cut.{Cut}
use Rattle.span_openqueries.specs.declared.taken.Taken.{Taken}

-- the reply of a call's result
abbrev pub as_reply : {A : Type 0} → (A → Reply) → Result A Refusal → Reply
as_reply make (Ok x) = make x
as_reply make (Err why) = reply.Refused why

-- the reply to a decision: its commit timestamp, or none
abbrev pub decision_reply : Option ℕ → Reply
decision_reply None = reply.Aborted
decision_reply (Some ts) = reply.Decided ts

-- nothing but its mutations keeps the transaction from being prepared at the slot
pub record MayPrepare (schema : List Table) (m : Machine) (owner txn slot : ℕ) (ms : List CheckedMutation) : Type 0
  where
    pub transaction : OpenTransaction
    pub slot_state : SlotState
    pub found : find (is_transaction owner txn) m.transactions ≡ Some transaction
    pub here : slice_get m.slots slot ≡ Some slot_state
    pub accepted : prepare_refusal schema m slot transaction slot_state ≡ None
    pub mutations : ms ≡ mutations_in schema slot_state transaction.mutations

-- why the transaction is not noted as prepared at the slot: its state, or no prepare timestamp left
abbrev pub note_cause : ℕ → OpenTransaction → SlotState → Option Refusal
note_cause slot t slot_state =
    first_cause ((has_wrong_state slot t, WrongState)
    ∷ (nat_le timestamp_end (prepare_timestamp slot_state), TimestampRange) ∷ [])

-- the same of the transaction of this owner and number, which may not be there, nor the slot
abbrev pub note_refusal : Machine → ℕ → ℕ → ℕ → Option Refusal
note_refusal m owner txn slot =
    if_some (find (is_transaction owner txn) m.transactions) (Some UnknownTransaction)
    (λ t. if_some (slice_get m.slots slot) (Some NoSlot) (note_cause slot t))

-- the transaction is noted as prepared at the slot
pub record IsNoted (old : Machine) (owner txn slot ts : ℕ) (new : Machine) : Type 0 where
  pub transaction : OpenTransaction
  pub slot_state : SlotState
  pub found : find (is_transaction owner txn) old.transactions ≡ Some transaction
  pub here : slice_get old.slots slot ≡ Some slot_state
  pub accepted : note_cause slot transaction slot_state ≡ None
  pub at : ts ≡ prepare_timestamp slot_state
  pub after : new ≡ (prepared old owner txn slot slot_state).1

-- why a transaction is not noted
abbrev pub IsUnnoted : Machine → ℕ → ℕ → ℕ → Refusal → Type 0
IsUnnoted m owner txn slot why = note_refusal m owner txn slot ≡ Some why

-- why a transaction may not be prepared at the slot: out of memory, or the machine's refusal
abbrev pub IsUnprepared : List Table → Machine → ℕ → ℕ → ℕ → Refusal → Type 0
IsUnprepared schema m owner txn slot why = (why ≡ OutOfMemory) ⊎ (prepare schema m owner txn slot ≡ refused m why)

-- the decided transaction is noted as applied at the slot
pub record IsApplied (old : Machine) (owner txn slot : ℕ) (interval : Interval) (committed : Option ℕ)
    (new : Machine) : Type 0 where
  pub transaction : OpenTransaction
  pub slot_state : SlotState
  pub found : find (is_transaction owner txn) old.transactions ≡ Some transaction
  pub here : slice_get old.slots slot ≡ Some slot_state
  pub accepted : apply_refusal slot transaction interval ≡ None
  pub decision : transaction.decision ≡ decision_of committed
  pub after : new ≡ (applied_at (decision_of committed) old owner txn slot transaction).1

-- this range is the lowest uncovered part of the query's leaf in the slot, a piece of it may be taken, the query's
-- timestamp s is not below the slot's horizon, and safe time reaches it once the floor has risen
pub record MayScan (m : Machine) (query leaf slot : ℕ) (interval : Interval) (range : KeyRange) (s : ℕ) : Type 0 where
  pub question : OpenQuery
  pub gap : ScanLeaf
  pub slot_state : SlotState
  pub part : KeyRange
  pub found : find (is_query query) m.queries ≡ Some question
  pub there : slice_get question.leaves leaf ≡ Some gap
  pub here : slice_get m.slots slot ≡ Some slot_state
  pub uncovered : gap_in slot_state gap ≡ Some part
  pub free : is_free slot_state gap part ≡ true
  pub of_part : range ≡ part
  pub at : s ≡ question.s
  pub above : nat_lt question.s slot_state.horizon ≡ false
  pub safe : is_safe m slot (with_risen_floor slot_state question.s interval) question.s ≡ true

-- the slot's horizon has risen to h
pub record IsRaised (old : Machine) (slot h : ℕ) (new : Machine) : Type 0 where
  pub slot_state : SlotState
  pub here : slice_get old.slots slot ≡ Some slot_state
  pub accepted : trim_refusal old slot h slot_state ≡ None
  pub after : new ≡ record old { slots = slice_set old.slots slot (record slot_state { horizon = h }) }

-- what a scan finds: nothing uncovered, or the part of the leaf's range that may be read
abbrev pub IsGap : Machine → ℕ → ℕ → ℕ → Interval → Option Gap → Type 0
IsGap m query leaf slot interval None = scan m query leaf slot interval ≡ (reply.Nothing, m)
IsGap m query leaf slot interval (Some gap) = MayScan m query leaf slot interval gap.range gap.s

-- why nothing is claimed: out of memory, or the machine's refusal, which leads to this machine
abbrev pub IsUnclaimed : Machine → ℕ → ℕ → ℕ → Interval → Refusal → Machine → Type 0
IsUnclaimed m query leaf slot interval why next =
    ((why ≡ OutOfMemory) × (next ≡ m)) ⊎ (scan m query leaf slot interval ≡ (reply.Refused why, next))

-- the leaf of a query at a place
abbrev pub leaf_of : Machine → ℕ → ℕ → Option Leaf
leaf_of m query leaf =
    if_some (find (is_query query) m.queries) None
    (λ q. option_map (λ (l : ScanLeaf). l.leaf) (slice_get q.leaves leaf))

-- the query above the leaves at s, with the pieces that cover them
pub record IsCovered (j : Journaled) (query s : ℕ) (top : BoundQuery) (pieces : List (List Piece)) : Type 0 where
  pub question : Pieced
  pub found : find (λ p. is_query query p.query) j.queries ≡ Some question
  pub covered : list_all is_covered question.query.leaves ≡ true
  pub at : s ≡ question.query.s
  pub top_is : top ≡ question.query.top
  pub pieces_are : pieces ≡ question.pieces

-- the query, whose leaves are covered, was taken out of the journal
pub record IsTaken (old : Journaled) (query : ℕ) (taken : Taken) (new : Journaled) : Type 0 where
  pub question : Pieced
  pub found : find (λ p. is_query query p.query) old.queries ≡ Some question
  pub covered : list_all is_covered question.query.leaves ≡ true
  pub taken_is : taken ≡ taken_of question
  pub after : new ≡ record old { queries = without_first (λ p. is_query query p.query) old.queries }

-- a piece of this range covers a part of the query's leaf that no piece covered, and the slot's floor has risen to the
-- query's timestamp, which safe time has reached
pub record IsRegistered (old : Journaled) (query leaf slot : ℕ) (interval : Interval) (range : KeyRange) (piece : Piece)
    (new : Journaled) : Type 0 where
  pub question : Pieced
  pub gap : ScanLeaf
  pub slot_state : SlotState
  pub found : find (λ p. is_query query p.query) old.queries ≡ Some question
  pub there : slice_get question.query.leaves leaf ≡ Some gap
  pub here : slice_get old.slots slot ≡ Some slot_state
  pub free : is_free slot_state gap range ≡ true
  pub above : nat_lt question.query.s slot_state.horizon ≡ false
  pub safe : is_safe (machine_of old) slot (with_risen_floor slot_state question.query.s interval) question.query.s
      ≡ true
  pub after : new ≡ record old {
    slots = (with_slot_state (machine_of old) slot (with_risen_floor slot_state question.query.s interval)).slots;
    queries = changed_first (λ p. is_query query p.query) (covered_by leaf range piece) old.queries;
  }

-- why a piece is not registered: out of memory, or its refusal
abbrev pub IsUnregistered : Journaled → ℕ → ℕ → ℕ → Interval → KeyRange → Refusal → Type 0
IsUnregistered j query leaf slot interval range why =
    (why ≡ OutOfMemory) ⊎ (register_refusal (machine_of j) query leaf slot interval range ≡ Some why)

-- the journal after a refusal: as it was, or the slot's floor has risen where safe time has not reached the query's
-- timestamp
abbrev pub IsUnchanged : Journaled → ℕ → ℕ → Interval → Refusal → Journaled → Type 0
IsUnchanged old query slot interval why new = (new ≡ old) ⊎ ((why ≡ NotYet) × IsRisen old query slot interval new)

-- ---- splits

-- the slot has the coded key, and may be cut there
pub record MaySplit (m : Machine) (slot : ℕ) (key : List ℕ) : Type 0 where
  pub slot_state : SlotState
  pub found : slot_of m.slots key ≡ Some slot
  pub here : slice_get m.slots slot ≡ Some slot_state
  pub accepted : split_refusal m slot key slot_state ≡ None

-- what a slot is cut by: where, and the state of the new slot; it is within the limit of slots
pub record IsCutOf (m : Machine) (slot : ℕ) (cut : Cut) : Type 0 where
  pub slot_state : SlotState
  pub here : slice_get m.slots slot ≡ Some slot_state
  pub upper : cut.upper ≡ record slot_state { lo = Some cut.upper_bound }
  pub few : length m.slots < most_slots
