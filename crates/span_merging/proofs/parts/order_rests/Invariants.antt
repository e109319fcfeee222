use Rattle.span_sorting.specs.Orders.{IsOrderBelow}
use Rattle.span_merging.specs.PartRests.{part_before}
use Rattle.span_merging.proofs.parts.order_rests.Given as goal

-- the lists so far
abbrev pub invariant-loop-part : goal.invariant-loop-part
invariant-loop-part l = IsOrderBelow l.part (part_before l.keys l.rests) l.order.items
