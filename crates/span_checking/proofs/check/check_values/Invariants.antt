use Rattle.std.proofs.Common.{◌≡◌, drop}
use Rattle.span_checking.specs.InOrder.{values_cause}
use Rattle.span_checking.proofs.check.check_values.Given as goal

abbrev pub invariant-loop-i : goal.invariant-loop-i
invariant-loop-i l = values_cause l.columns (drop l.i l.places) (drop l.i l.cells) ≡ values_cause l.columns l.places l.cells
