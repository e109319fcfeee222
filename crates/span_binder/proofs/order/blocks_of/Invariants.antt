use Rattle.std.proofs.Common.{◌≡◌}
use Rattle.span_binder.specs.Queries as spec
use Rattle.span_binder.proofs.order.blocks_of.Given as goal

abbrev pub invariant-loop-one : goal.invariant-loop-one
invariant-loop-one l = l.blocks.items ≡ spec.blocks_of l.yielded
