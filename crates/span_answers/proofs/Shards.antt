-- The lines of slots, one after another.
use Rattle.std.proofs.Common.{◌≡◌, ◌∙◌, ◌+◌, ℕ, zero, suc, List, [], ◌∷◌, ◌++◌, Some, refl, sym, ap, take, append_assoc, arith}
use Rattle.std.proofs.lemmas.List.{append-nil}
use Rattle.std.specs.Prelude.{slice_get}
use Rattle.span_schema.specs.declared.table.Table.{Table}
use Rattle.span_machine.specs.declared.slot.SlotState.{SlotState}
use Rattle.span_machine.specs.Machine.{Machine}
use Rattle.span_core.specs.declared.slot.SlotView.{SlotView}
use Rattle.span_core.specs.Views.{IsView}
use Rattle.span_answers.specs.Lines.{line_of, slot_lines, slot_range, slot_times, slot_counts}

-- the lines of the first slots, and of one more
pub lines_push : (schema : List Table) (m : Machine) (from i : ℕ) (states : List SlotState) (state : SlotState) → slice_get states i ≡ Some state
    → slot_lines schema m from (take (i + 1) states) ≡ slot_lines schema m from (take i states) ++ line_of schema m (from + i) state
lines_push schema m from i [] state here = absurd (cc)
lines_push schema m from zero (first ∷ states) state here =
    let same : first ≡ state = cc in
    let at : from + 0 ≡ from = omega arith in
    append-nil (line_of schema m from first) ∙ ap (line_of schema m from) same ∙ ap (λ k. line_of schema m k state) (sym at)
lines_push schema m from (suc i) (first ∷ states) state here =
    let at : from + 1 + i ≡ from + suc i = omega arith in
    let up : suc i + 1 ≡ suc (i + 1) = omega arith in
    ap (λ k. slot_lines schema m from (take k (first ∷ states))) up
    ∙ ap (λ (w : List ℕ). line_of schema m from first ++ w) (lines_push schema m (from + 1) i states state here ∙ ap (λ k. slot_lines schema m (from + 1) (take i states) ++ line_of schema m k state) at)
    ∙ sym (append_assoc (line_of schema m from first) (slot_lines schema m (from + 1) (take i states)) (line_of schema m (from + suc i) state))

-- what is shown of a slot is its line
pub line_shown : (schema : List Table) (m : Machine) (slot : ℕ) (view : SlotView) → (is : IsView schema m slot view)
    → slot_range slot view.lo.now view.hi.now ++ slot_times view.last view.floor view.horizon ++ slot_counts view.live view.prepared ≡ line_of schema m slot is.slot_state
line_shown schema m slot view is = rw (is.lo, is.hi, is.last, is.floor, is.horizon, is.live, is.prepared) refl

-- with one more slot shown
pub one_more : (schema : List Table) (m : Machine) (before text after : List ℕ) (slot : ℕ) (view : SlotView) → text ≡ before ++ slot_lines schema m 0 (take slot m.slots) → IsView schema m slot view
    → after ≡ text ++ slot_range slot view.lo.now view.hi.now ++ slot_times view.last view.floor view.horizon ++ slot_counts view.live view.prepared
    → after ≡ before ++ slot_lines schema m 0 (take (slot + 1) m.slots)
one_more schema m before text after slot view so_far is added =
    let range : List ℕ = slot_range slot view.lo.now view.hi.now in
    let times : List ℕ = slot_times view.last view.floor view.horizon in
    let counts : List ℕ = slot_counts view.live view.prepared in
    let shown : List ℕ = range ++ times ++ counts in
    let at : 0 + slot ≡ slot = omega arith in
    let line : shown ≡ line_of schema m (0 + slot) is.slot_state = line_shown schema m slot view is ∙ ap (λ k. line_of schema m k is.slot_state) (sym at) in
    added ∙ ap (λ (w : List ℕ). w ++ counts) (append_assoc text range times) ∙ append_assoc text (range ++ times) counts
    ∙ ap (λ (w : List ℕ). w ++ shown) so_far ∙ append_assoc before (slot_lines schema m 0 (take slot m.slots)) shown
    ∙ ap (λ (w : List ℕ). before ++ (slot_lines schema m 0 (take slot m.slots) ++ w)) line
    ∙ ap (λ (w : List ℕ). before ++ w) (sym (lines_push schema m 0 slot m.slots is.slot_state is.here))
