use Rattle.std.proofs.Common.{◌≡◌, ◌++◌, drop}
use Rattle.span_algebra.proofs.source.add_copies.Given as goal

-- the rows so far, and those that are left
abbrev pub invariant-loop-at : goal.invariant-loop-at
invariant-loop-at l = l.rows ++ drop l.at l.more ≡ l.fn.rows ++ l.more
