use Rattle.std.proofs.Common.{◌≡◌, ◌++◌, drop}
use Rattle.span_mutate.proofs.copy.copy_of_mutations.Given as goal

abbrev pub invariant-loop-mutation : goal.invariant-loop-mutation
invariant-loop-mutation l = l.copy.items ++ drop l.mutation-index l.mutations ≡ l.mutations
