use Rattle.std.proofs.Common.{◌≡◌, ◌++◌}
use Rattle.std.specs.Vec.Iter.{into_iter_items}
use Rattle.span_mutate.specs.Batches.{named_cells}
use Rattle.span_checking.proofs.batch_check.cells_of.Given as goal

-- the cells so far, and those of the values that are left
abbrev pub invariant-loop-value : goal.invariant-loop-value
invariant-loop-value l = l.cells.items ++ named_cells (into_iter_items l.value-iterator) l.rest ≡ named_cells l.fn.values.items l.names
