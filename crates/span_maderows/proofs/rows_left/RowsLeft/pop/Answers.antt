use Rattle.span_maderows.proofs.Hashing.{less_distinct, less_map}
use Rattle.span_maderows.proofs.rows_left.RowsLeft.pop.Goals as goal

pub invariant_of-self : goal.invariant_of-self
invariant_of-self c = less_distinct c.self.inside.map.entries c.self.inside.list.items c.pop.new.self.items _ c.self.invariant c.pop.ensures.items

pub invariant_of-self-2 : goal.invariant_of-self-2
invariant_of-self-2 c =
    less_map c.self.inside.map.entries c.pop_last.new.self.entries c.pop.new.self.items c.pop_last.result
    (less_distinct c.self.inside.map.entries c.self.inside.list.items c.pop.new.self.items _ c.self.invariant c.pop.ensures.items) c.pop_last.ensures.removal c.pop_last.ensures.unchanged
