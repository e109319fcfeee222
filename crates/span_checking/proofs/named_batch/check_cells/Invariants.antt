use Rattle.std.proofs.Common.{◌≡◌, drop}
use Rattle.span_checking.specs.InOrder.{row_cause}
use Rattle.span_checking.proofs.named_batch.check_cells.Given as goal

abbrev pub invariant-loop-i : goal.invariant-loop-i
invariant-loop-i l = row_cause l.columns (drop l.i l.places) (drop l.i l.cells) ≡ row_cause l.columns l.places l.cells
