use Rattle.std.proofs.Common.{◌≡◌}
use Rattle.span_blocks.specs.Blocks as spec
use Rattle.span_blocks.proofs.block.split_projection.Given as goal

abbrev pub invariant-loop-one : goal.invariant-loop-one
invariant-loop-one l = (l.exprs.items ≡ spec.projected_exprs l.yielded) × (l.columns.items ≡ spec.projected_columns l.yielded)
