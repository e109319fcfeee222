use Rattle.std.proofs.Common.{◌≡◌, replicate}
use Rattle.span_classes.proofs.merge.none_taken.Given as goal

abbrev pub invariant-loop : goal.invariant-loop
invariant-loop l = l.taken.items ≡ replicate l.counter 0
