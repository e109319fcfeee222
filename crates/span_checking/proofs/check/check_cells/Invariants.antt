use Rattle.std.proofs.Common.{◌≡◌, [], drop, take}
use Rattle.span_checking.specs.Checking.{cells_cause}
use Rattle.span_checking.proofs.check.check_cells.Given as goal

abbrev pub invariant-loop-i : goal.invariant-loop-i
invariant-loop-i l = cells_cause l.table l.kind (take l.i l.cells) (drop l.i l.cells) ≡ cells_cause l.table l.kind [] l.cells
