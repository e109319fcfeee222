use Rattle.std.proofs.Common.{◌++◌, ℕ, List, Some, cond, ap, sym, subst, ◌∙◌}
use Rattle.span_keycode.specs.Order.{is_same}
use Rattle.span_maderows.specs.Made.{made_at, AreInKeyOrder, IsAfterAll}
use Rattle.span_maderows.proofs.MadeRows.{tail_order, tail_set}
use Rattle.span_maderows.proofs.ordered.OrderedRows.push.Goals as goal

pub invariant_of-self-2 : goal.invariant_of-self-2
invariant_of-self-2 c =
    let map = c.self.inside.map.entries in
    let tail = c.self.inside.tail.items in
    let after = subst (IsAfterAll c.args.key) (sym c.self.view_is) c.requires in
    subst (λ (l : List (List ℕ × List ℕ)). AreInKeyOrder (map ++ l)) (sym c.in_ok-push.ensures.items) (tail_order map tail c.args.key c.args.row after c.self.invariant)

pub returns : goal.returns
returns c =
    let key = c.args.key in
    let row = c.args.row in
    let map = c.self.inside.map.entries in
    let tail = c.self.inside.tail.items in
    let after = subst (IsAfterAll key) (sym c.self.view_is) c.requires in (λ k.
    ap (λ (l : List (List ℕ × List ℕ)). made_at (map ++ l) k) c.in_ok-push.ensures.items ∙ tail_set map tail key row after k
    ∙ ap (λ (l : List (List ℕ × List ℕ)). cond (is_same key k) (Some row) (made_at l k)) c.self.view_is)
