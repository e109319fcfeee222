use Rattle.std.proofs.Common.{◌≡◌, drop}
use Rattle.span_checking.specs.Columns.{is_null_refused}
use Rattle.span_checking.specs.InOrder.{places_break}
use Rattle.span_checking.proofs.column.has_null.Given as goal

abbrev pub invariant-loop-i : goal.invariant-loop-i
invariant-loop-i l = places_break is_null_refused l.columns l.places l.values ≡ places_break is_null_refused l.columns (drop l.i l.places) (drop l.i l.values)
