use Rattle.std.proofs.Common.{◌≡◌, drop}
use Rattle.span_blocks.specs.Blocks as spec
use Rattle.span_blocks.proofs.grouping.groups_named.Given as goal

abbrev pub invariant-loop-column : goal.invariant-loop-column
invariant-loop-column l = spec.groups_named l.scope l.groups ≡ spec.groups_named l.scope (drop l.column-index l.groups)
