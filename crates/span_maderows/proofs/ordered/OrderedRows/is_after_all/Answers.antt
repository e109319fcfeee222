use Rattle.std.proofs.Common.{◌≡◌, ◌-◌, ℕ, List, Some, length, slice_get, ap, sym, subst, ◌∙◌}
use Rattle.std.specs.Ordering.{is_lt}
use Rattle.span_maderows.specs.Made.{IsAfterAll}
use Rattle.span_maderows.proofs.MadeRows.{after_end}
use Rattle.span_maderows.proofs.ordered.OrderedRows.is_after_all.Goals as goal

pub returns-in-Some : goal.returns-in-Some
returns-in-Some c = (λ less.
    let e = c.in-Some.field-0.now in
    let at = subst (λ (l : List (List ℕ × List ℕ)). slice_get l (length l - 1) ≡ Some e) c.deref.ensures.value (sym c.in-Some.ensures.value) in
    subst (IsAfterAll c.args.key.now) c.self.view_is
    (after_end c.args.key.now c.self.inside.map.entries c.self.inside.tail.items e c.self.invariant at (sym (c.is_lt.ensures ∙ ap is_lt c.cmp.ensures) ∙ less)))
