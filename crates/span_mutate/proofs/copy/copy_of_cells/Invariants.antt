use Rattle.std.proofs.Common.{◌≡◌, ◌++◌, drop}
use Rattle.span_mutate.proofs.copy.copy_of_cells.Given as goal

abbrev pub invariant-loop-cell : goal.invariant-loop-cell
invariant-loop-cell l = l.copy.items ++ drop l.cell-index l.cells ≡ l.cells
