use Rattle.std.proofs.Common.{◌≡◌, drop}
use Rattle.span_checking.specs.InOrder.{are_names_at}
use Rattle.span_checking.proofs.column.are_names_at.Given as goal

abbrev pub invariant-loop-i : goal.invariant-loop-i
invariant-loop-i l = are_names_at l.columns l.places l.names ≡ are_names_at l.columns (drop l.i l.places) (drop l.i l.names)
