-- Why a piece is not taken, and the floor that a scan may raise.
use Rattle.std.specs.Prelude.{◌≡◌, ℕ, not, nat_lt, [], ◌∷◌, find, slice_get, slice_set, Option, Some}
use Rattle.span_keycode.specs.declared.range.KeyRange.{KeyRange}
use Rattle.span_value.specs.declared.refusal.Refusal.{Refusal}
use Rattle.span_value.specs.declared.refusal.Refusal.TheVariants.{UnknownQuery, NoSlot, Incomplete, Trimmed, NotYet}
use Rattle.span_value.specs.Results.{first_cause}
use Rattle.span_truetime.specs.declared.interval.Interval.{Interval}
use Rattle.span_machine.specs.declared.slot.SlotState.{SlotState}
use Rattle.span_machine.specs.declared.query.ScanLeaf.{ScanLeaf}
use Rattle.span_machine.specs.Machine.{Machine, if_some, is_query, is_safe, with_risen_floor}
use Rattle.span_machine.specs.Pieces.{Pieced, Journaled}
use Rattle.span_openqueries.specs.Targets.{is_free}

-- why a piece of this range, read at s, is not taken: the range is not free; s is below the slot's horizon; safe time
-- has not reached s
abbrev pub piece_refusal : Machine → ℕ → Interval → KeyRange → ℕ → ScanLeaf → SlotState → Option Refusal
piece_refusal m slot interval range s l slot_state = first_cause (
    (not (is_free slot_state l range), Incomplete)
    ∷ (nat_lt s slot_state.horizon, Trimmed)
    ∷ (not (is_safe m slot (with_risen_floor slot_state s interval) s), NotYet) ∷ [])

-- the same of the query and the slot of these numbers, which may not be there
abbrev pub register_refusal : Machine → ℕ → ℕ → ℕ → Interval → KeyRange → Option Refusal
register_refusal m query leaf slot interval range =
    if_some (find (is_query query) m.queries) (Some UnknownQuery)
    (λ q. if_some (slice_get q.leaves leaf) (Some UnknownQuery)
    (λ l. if_some (slice_get m.slots slot) (Some NoSlot) (piece_refusal m slot interval range q.s l)))

-- the slot's floor has risen to the timestamp of the query where the clock has passed it, and nothing else has changed
pub record IsRisen (old : Journaled) (query slot : ℕ) (interval : Interval) (new : Journaled) : Type 0 where
  pub question : Pieced
  pub slot_state : SlotState
  pub found : find (λ p. is_query query p.query) old.queries ≡ Some question
  pub here : slice_get old.slots slot ≡ Some slot_state
  pub after : new ≡ record old {
    slots = slice_set old.slots slot
        (with_risen_floor slot_state question.query.s interval);
  }
