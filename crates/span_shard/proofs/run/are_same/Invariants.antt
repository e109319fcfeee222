use Rattle.std.proofs.Common.{◌≡◌, take}
use Rattle.span_shard.proofs.run.are_same.Given as goal

-- the values so far are the same
abbrev pub invariant-loop-i : goal.invariant-loop-i
invariant-loop-i l = take l.i l.left ≡ take l.i l.right
