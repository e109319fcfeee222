use Rattle.std.proofs.Common.{◌≡◌, drop}
use Rattle.span_keycode.specs.Coding.{AreFit, are_of_kinds}
use Rattle.span_keycode.proofs.column.have_kinds.Given as goal

abbrev pub invariant-loop-i : goal.invariant-loop-i
invariant-loop-i l = (are_of_kinds l.columns l.values ≡ are_of_kinds (drop l.i l.columns) (drop l.i l.values)) × (AreFit (drop l.i l.columns) (drop l.i l.values) → AreFit l.columns l.values)
