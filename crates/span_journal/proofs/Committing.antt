-- Why a transaction is not committed, by what was looked at.
use Rattle.std.proofs.Common.{◌≡◌, ℕ, ◌+◌, ◌<◌, ◌≤◌, max, Bool, true, false, not, ◌&&◌, ◌||◌, ◌==◌, nat_le, List, [], ◌∷◌, length, Some, None, refl, ap, ◌∙◌}
use Rattle.std.specs.Prelude.{slice_get}
use Rattle.std.specs.List.{list_any, list_all}
use Rattle.std.proofs.lemmas.Bool.{le-leb, lt-leb}
use Rattle.span_value.specs.declared.refusal.Refusal.TheVariants as refusal
use Rattle.span_value.specs.Results.{first_cause}
use Rattle.span_schema.specs.declared.table.Table.{Table}
use Rattle.span_truetime.specs.Limits.{timestamp_end}
use Rattle.span_truetime.specs.declared.interval.Interval.{Interval}
use Rattle.span_machine.specs.declared.slot.SlotState.{SlotState}
use Rattle.span_machine.specs.declared.transaction.Prepared.{Prepared}
use Rattle.span_machine.specs.declared.transaction.OpenTransaction.{OpenTransaction}
use Rattle.span_machine.specs.Machine.{Machine, if_some, is_undecided, is_all_prepared, greatest, coordinator_slot, commit_timestamp, commit_refusal}
use Rattle.span_transactions.specs.Places.{slot_has}

-- the transaction is prepared, and for each of its mutations where the slots have its directory
abbrev pub ready_in : List Table → List SlotState → OpenTransaction → Bool
ready_in schema slots t = not (length t.prepared == 0) && list_all (λ m. list_any (λ p. slot_has schema slots m p.slot) t.prepared) t.mutations

-- the commit timestamp, by the slots
abbrev pub stamp_in : List SlotState → List Prepared → ℕ → ℕ
stamp_in slots ps latest = max (greatest ps) (max (latest + 1) (if_some (slice_get slots (coordinator_slot ps)) 0 (λ slot_state. slot_state.last) + 1))

module _ (schema : List Table) (m : Machine) (t : OpenTransaction) (interval : Interval) (still : is_undecided t ≡ true) where
  by_tests : (ready late : Bool) → ready_in schema m.slots t ≡ ready → nat_le timestamp_end (commit_timestamp m t interval) ≡ late
      → commit_refusal schema m t interval ≡ first_cause ((not ready, refusal.WrongState) ∷ (late, refusal.TimestampRange) ∷ [])
  by_tests ready late is stamp =
      ap (λ b. first_cause ((not b || not (is_all_prepared schema m t), refusal.WrongState) ∷ (nat_le timestamp_end (commit_timestamp m t interval), refusal.TimestampRange) ∷ [])) still
      ∙ ap (λ b. first_cause ((not b, refusal.WrongState) ∷ (nat_le timestamp_end (commit_timestamp m t interval), refusal.TimestampRange) ∷ [])) is
      ∙ ap (λ b. first_cause ((not ready, refusal.WrongState) ∷ (b, refusal.TimestampRange) ∷ [])) stamp

  pub refused_unready : ready_in schema m.slots t ≡ false → commit_refusal schema m t interval ≡ Some refusal.WrongState
  refused_unready unready = by_tests false _ unready refl

  pub refused_late : ready_in schema m.slots t ≡ true → timestamp_end ≤ stamp_in m.slots t.prepared interval.latest → commit_refusal schema m t interval ≡ Some refusal.TimestampRange
  refused_late ready late = by_tests true true ready (le-leb timestamp_end (commit_timestamp m t interval) late)

  pub accepted_commit : ready_in schema m.slots t ≡ true → stamp_in m.slots t.prepared interval.latest < timestamp_end → commit_refusal schema m t interval ≡ None
  accepted_commit ready early = by_tests true false ready (lt-leb timestamp_end (commit_timestamp m t interval) early)
