use Rattle.std.proofs.Common.{ℕ, List, Some, cond, is_none, ap, ◌∙◌}
use Rattle.span_keycode.specs.Order.{is_same}
use Rattle.span_maderows.specs.Made.{made_at}
use Rattle.span_maderows.proofs.MadeRows.{front_order, front_set, front_absent}
use Rattle.span_maderows.proofs.ordered.OrderedRows.insert.Goals as goal

pub invariant_of-self-2 : goal.invariant_of-self-2
invariant_of-self-2 c =
    front_order c.make_way.new.map.entries c.insert.new.self.entries c.make_way.new.tail.items c.args.key c.args.row c.in_ok-make_way.ensures.order c.in_ok-before.ensures.ordered c.in_ok-before.ensures.entries
    c.in_ok-make_way.ensures.before

pub returns-clause-absent : goal.returns-clause-absent
returns-clause-absent c =
    let key = c.args.key in
    front_absent c.make_way.new.map.entries c.make_way.new.tail.items key c.in_ok-before.before c.is_none.result c.in_ok-make_way.ensures.before c.in_ok-before.ensures.old c.is_none.ensures
    ∙ ap (λ (l : List (List ℕ × List ℕ)). is_none (made_at l key)) (c.in_ok-make_way.ensures.same ∙ c.self.view_is)

pub returns-clause-set : goal.returns-clause-set
returns-clause-set c =
    let key = c.args.key in
    let row = c.args.row in (λ k.
    front_set c.make_way.new.map.entries c.insert.new.self.entries c.make_way.new.tail.items key row (λ l. c.in_ok-before.ensures.updates.0 l) k
    ∙ ap (λ (l : List (List ℕ × List ℕ)). cond (is_same key k) (Some row) (made_at l k)) (c.in_ok-make_way.ensures.same ∙ c.self.view_is))
