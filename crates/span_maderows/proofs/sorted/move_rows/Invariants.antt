use Rattle.std.proofs.Common.{IsPermutation}
use Rattle.span_maderows.proofs.sorted.move_rows.Given as goal

-- the rows are still there
abbrev pub invariant-loop-start : goal.invariant-loop-start
invariant-loop-start l = IsPermutation l.fn.rows.items l.rows.items
