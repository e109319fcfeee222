use Rattle.std.proofs.Common.{◌≡◌, ◌++◌, ◌+◌, drop}
use Rattle.span_schema.specs.Layouts.{children_in}
use Rattle.span_schema.proofs.layout.children_of_place.Given as goal

abbrev pub invariant-loop-i : goal.invariant-loop-i
invariant-loop-i l = l.children.items ++ children_in l.parent (l.i + 1) (drop l.i l.lines) ≡ children_in l.parent 1 l.lines
