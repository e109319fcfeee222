use Rattle.std.proofs.Common.{◌≡◌, map}
use Rattle.std.specs.List.{range_with_len}
use Rattle.span_schema.specs.Lineages.{children_at}
use Rattle.span_schema.proofs.layout.children_of.Given as goal

abbrev pub invariant-loop-i : goal.invariant-loop-i
invariant-loop-i l = l.children.items ≡ map (children_at l.tables) (range_with_len 0 l.i)
