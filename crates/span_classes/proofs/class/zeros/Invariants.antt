use Rattle.std.proofs.Common.{◌≡◌, replicate}
use Rattle.span_classes.proofs.class.zeros.Given as goal

abbrev pub invariant-loop : goal.invariant-loop
invariant-loop l = l.numbers.items ≡ replicate l.counter 0
