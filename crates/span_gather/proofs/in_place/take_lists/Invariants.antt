use Rattle.std.proofs.Common.{◌≡◌}
use Rattle.span_gather.specs.InPlace.{lists_of}
use Rattle.span_gather.proofs.in_place.take_lists.Given as goal

abbrev pub invariant-loop-piece : goal.invariant-loop-piece
invariant-loop-piece l = l.lists.items ≡ lists_of l.yielded
