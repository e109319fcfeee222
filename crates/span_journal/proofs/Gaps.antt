-- The lowest uncovered part of a leaf's range in a slot may be covered.
use Rattle.std.proofs.Common.{◌≡◌, ℕ, Bool, true, not, ◌&&◌, List, Option, Some, None, refl}
use Rattle.std.specs.Ordering.{is_lt}
use Rattle.std.proofs.lemmas.Bool.{and_from, not_from_false}
use Rattle.span_keycode.specs.Order.{byte_order}
use Rattle.span_keycode.specs.declared.range.KeyRange.{KeyRange}
use Rattle.span_keycode.specs.Parts.{later_of, earlier_of, part_between, is_from, is_nonempty, is_covered_in_part, AreApart}
use Rattle.span_keycode.proofs.Befores.{IsUpto, upto_upto, later_left, later_right, earlier_left, earlier_right}
use Rattle.span_keycode.proofs.PartLaws.{gap_part, gap_apart}
use Rattle.span_machine.specs.declared.slot.SlotState.{SlotState}
use Rattle.span_machine.specs.declared.query.ScanLeaf.{ScanLeaf}
use Rattle.span_machine.specs.Machine.{gap_in}
use Rattle.span_openqueries.specs.Counts.{is_uncovered}
use Rattle.span_openqueries.specs.Targets.{ends_by, is_inside, is_free}

from_parts : (lo : Option (List ℕ)) (low k : List ℕ) → IsUpto (later_of lo low) k → (is_from lo k ≡ true) × (is_from (Some low) k ≡ true)
from_parts None low k p = (refl, not_from_false (is_lt (byte_order k low)) p)
from_parts (Some l) low k p = (
  not_from_false (is_lt (byte_order k l)) (upto_upto l (later_of (Some l) low) k (later_left l low) p),
  not_from_false (is_lt (byte_order k low)) (upto_upto low (later_of (Some l) low) k (later_right l low) p),
)

by_parts : (hi : Option (List ℕ)) (high k : List ℕ) → IsUpto k (earlier_of hi high) → (ends_by hi k ≡ true) × (ends_by (Some high) k ≡ true)
by_parts None high k p = (refl, not_from_false (is_lt (byte_order high k)) p)
by_parts (Some h) high k p = (
  not_from_false (is_lt (byte_order h k)) (upto_upto k (earlier_of (Some h) high) h p (earlier_left h high)),
  not_from_false (is_lt (byte_order high k)) (upto_upto k (earlier_of (Some h) high) high p (earlier_right h high)),
)

four : (a b c d : Bool) → a ≡ true → b ≡ true → c ≡ true → d ≡ true → (a && b && c && d) ≡ true
four a b c d e f g h = cc

pub gap_free : (slot_state : SlotState) (l : ScanLeaf) (part : KeyRange) → AreApart l.covered → gap_in slot_state l ≡ Some part → is_free slot_state l part ≡ true
gap_free slot_state l part apart gap =
    let inside = gap_part (part_between slot_state.lo slot_state.hi l.leaf.range) l.covered part gap in
    let low = from_parts slot_state.lo l.leaf.range.low part.low inside.low in
    let high = by_parts slot_state.hi l.leaf.range.high part.high inside.high in
    let is_in : is_inside slot_state l part ≡ true =
    four (is_from slot_state.lo part.low) (ends_by slot_state.hi part.high) (is_from (Some l.leaf.range.low) part.low) (ends_by (Some l.leaf.range.high) part.high) low.0 high.0 low.1 high.1 in
    let uncovered : is_uncovered l part ≡ true =
    and_from (is_nonempty part) (not (is_covered_in_part l.covered part)) inside.some
    (not_from_false (is_covered_in_part l.covered part) (gap_apart (part_between slot_state.lo slot_state.hi l.leaf.range) l.covered part apart gap)) in
    and_from (is_inside slot_state l part) (is_uncovered l part) is_in uncovered
