use Rattle.std.proofs.Common.{ℕ, List, None, cond, ap, ◌∙◌}
use Rattle.span_keycode.specs.Order.{is_same}
use Rattle.span_maderows.specs.Made.{made_at}
use Rattle.span_maderows.proofs.MadeRows.{front_out_order, front_out}
use Rattle.span_maderows.proofs.ordered.OrderedRows.remove.Goals as goal

pub invariant_of-self-2 : goal.invariant_of-self-2
invariant_of-self-2 c =
    front_out_order c.make_way.new.map.entries c.remove-row.new.self.entries c.make_way.new.tail.items c.args.key.now c.in_ok-make_way.ensures.order c.remove-row.ensures.ordered c.remove-row.ensures.entries

pub returns : goal.returns
returns c =
    let key = c.args.key.now in (λ k.
    front_out c.make_way.new.map.entries c.remove-row.new.self.entries c.make_way.new.tail.items key c.in_ok-make_way.ensures.before (λ l. c.remove-row.ensures.updates.0 l) k
    ∙ ap (λ (l : List (List ℕ × List ℕ)). cond (is_same key k) None (made_at l k)) (c.in_ok-make_way.ensures.same ∙ c.self.view_is))
