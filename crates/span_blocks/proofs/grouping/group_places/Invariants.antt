use Rattle.std.proofs.Common.{◌≡◌, ◌++◌, drop}
use Rattle.span_blocks.specs.Blocks as spec
use Rattle.span_blocks.proofs.grouping.group_places.Given as goal

abbrev pub invariant-loop-column : goal.invariant-loop-column
invariant-loop-column l = l.places ++ spec.group_places l.scope (drop l.column-index l.groups) ≡ spec.group_places l.scope l.groups
