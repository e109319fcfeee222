use Rattle.std.proofs.Common.{◌≡◌, ◌+◌, take}
use Rattle.span_leaves.specs.Leaves.{widths}
use Rattle.span_leaves.proofs.reads.from_width.Given as goal

-- the columns of the items so far
abbrev pub invariant-loop-i : goal.invariant-loop-i
invariant-loop-i l = l.sum ≡ l.width + widths (take l.i l.joins)
