use Rattle.std.proofs.Common.{◌≡◌, ◌++◌, drop}
use Rattle.span_mutate.specs.Database.{merge_cells}
use Rattle.span_mutate.proofs.root.merge_cells.Given as goal

abbrev pub invariant-loop-i : goal.invariant-loop-i
invariant-loop-i l = l.cells.items ++ merge_cells (drop l.i l.named) (drop l.i l.old) ≡ merge_cells l.named l.old
