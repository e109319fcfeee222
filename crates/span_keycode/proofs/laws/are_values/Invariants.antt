use Rattle.std.proofs.Common.{drop}
use Rattle.span_keycode.specs.Coding.{AreValues}
use Rattle.span_keycode.proofs.laws.are_values.Given as goal

abbrev pub invariant-loop-value : goal.invariant-loop-value
invariant-loop-value l = AreValues (drop l.value-index l.values) → AreValues l.values
