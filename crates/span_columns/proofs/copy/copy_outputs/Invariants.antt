use Rattle.std.proofs.Common.{◌≡◌, ◌++◌, drop}
use Rattle.span_columns.proofs.copy.copy_outputs.Given as goal

abbrev pub invariant-loop-output : goal.invariant-loop-output
invariant-loop-output l = l.outputs ≡ l.copies ++ drop l.output-index l.outputs
