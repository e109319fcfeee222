use Rattle.std.proofs.Common.{◌≡◌, length}
use Rattle.span_store.proofs.numbers.number_writes.Given as goal

abbrev pub invariant-loop-place : goal.invariant-loop-place
invariant-loop-place l = length l.places.items ≡ length l.writes
