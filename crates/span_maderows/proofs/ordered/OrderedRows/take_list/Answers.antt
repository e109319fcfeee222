use Rattle.std.proofs.Common.{ap, ◌∙◌}
use Rattle.span_maderows.proofs.MadeRows.{first_order}
use Rattle.span_maderows.proofs.ordered.OrderedRows.take_list.Goals as goal

pub invariant_of-self : goal.invariant_of-self
invariant_of-self c =
    first_order c.self.inside.map.entries c.self.inside.tail.items c.replace.new.dest.items c.self.invariant (ap (λ v. v.items) c.replace.ensures.after ∙ c.new-empty.ensures.items)
