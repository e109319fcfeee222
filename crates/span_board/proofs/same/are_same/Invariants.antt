use Rattle.std.proofs.Common.{◌≡◌, take}
use Rattle.span_board.proofs.same.are_same.Given as goal

abbrev pub invariant-loop-at : goal.invariant-loop-at
invariant-loop-at g l = take l.at l.one ≡ take l.at l.other
