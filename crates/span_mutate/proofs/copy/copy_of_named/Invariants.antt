use Rattle.std.proofs.Common.{◌≡◌, ◌++◌, drop}
use Rattle.span_mutate.proofs.copy.copy_of_named.Given as goal

abbrev pub invariant-loop-named : goal.invariant-loop-named
invariant-loop-named l = l.copy.items ++ drop l.named-index l.all ≡ l.all
