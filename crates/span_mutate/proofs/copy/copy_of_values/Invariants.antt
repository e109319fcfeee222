use Rattle.std.proofs.Common.{◌≡◌, ◌++◌, drop}
use Rattle.span_mutate.proofs.copy.copy_of_values.Given as goal

abbrev pub invariant-loop-value : goal.invariant-loop-value
invariant-loop-value l = l.copy.items ++ drop l.value-index l.values ≡ l.values
