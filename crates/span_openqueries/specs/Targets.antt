-- What is scanned, which parts of a leaf's range are free, and what is taken out of a query.
use Rattle.std.specs.Prelude.{◌≡◌, ℕ, Bool, true, not, ◌&&◌, List, find, slice_get, Option, Some, None}
use Rattle.std.specs.Ordering.{is_lt}
use Rattle.span_keycode.specs.Order.{byte_order}
use Rattle.span_keycode.specs.Parts.{is_from, AreApart}
use Rattle.span_keycode.specs.declared.range.KeyRange.{KeyRange}
use Rattle.span_value.specs.declared.refusal.Refusal.{Refusal}
use Rattle.span_value.specs.declared.refusal.Refusal.TheVariants.{UnknownQuery, NoSlot}
use Rattle.span_machine.specs.declared.slot.SlotState.{SlotState}
use Rattle.span_machine.specs.declared.query.ScanLeaf.{ScanLeaf}
use Rattle.span_machine.specs.Place.{IsPlace}
use Rattle.span_machine.specs.Machine.{if_some, is_query}
use Rattle.span_machine.specs.Pieces.{Pieced}
use Rattle.span_openqueries.specs.Counts.{is_uncovered}
use Rattle.span_openqueries.specs.declared.taken.Taken.{Taken}

-- ---- what is scanned

-- why there is nothing to scan: no such query, or no such leaf of it; then no such slot
abbrev pub target_refusal : List Pieced → List SlotState → ℕ → ℕ → ℕ → Option Refusal
target_refusal queries slots query leaf slot =
    if_some (find (λ p. is_query query p.query) queries) (Some UnknownQuery)
    (λ p. if_some (slice_get p.query.leaves leaf) (Some UnknownQuery)
    (λ l. if_some (slice_get slots slot) (Some NoSlot) (λ b. None)))

-- the query of this number, at its place, its leaf, whose pieces are in order, and the state of the slot
pub record IsTarget (queries : List Pieced) (slots : List SlotState) (query leaf slot at : ℕ) (question : Pieced)
    (part : ScanLeaf) (slot_state : SlotState) : Type 0 where
  pub place : IsPlace (λ p. is_query query p.query) queries at question
  pub there : slice_get question.query.leaves leaf ≡ Some part
  pub apart : AreApart part.covered
  pub here : slice_get slots slot ≡ Some slot_state

-- ---- which parts are free

-- the end is not after this one; None is an end that nothing is after
abbrev pub ends_by : Option (List ℕ) → List ℕ → Bool
ends_by None end = true
ends_by (Some high) end = not (is_lt (byte_order high end))

-- the range lies in the slot's range and in the leaf's
abbrev pub is_inside : SlotState → ScanLeaf → KeyRange → Bool
is_inside slot_state l range =
    is_from slot_state.lo range.low && ends_by slot_state.hi range.high && is_from (Some l.leaf.range.low) range.low
    && ends_by (Some l.leaf.range.high) range.high

-- the range lies in the slot's range and in the leaf's, has keys, and no piece covers any of it
abbrev pub is_free : SlotState → ScanLeaf → KeyRange → Bool
is_free slot_state l range = is_inside slot_state l range && is_uncovered l range

-- ---- what is taken out of a query

abbrev pub taken_of : Pieced → Taken
taken_of p =
    record {
      text = p.query.text;
      params = p.query.params;
      statement = p.query.statement;
      s = p.query.s;
      top = p.query.top;
      pieces = p.pieces;
    }
