use Rattle.std.proofs.Common.{IsPermutation}
use Rattle.span_maderows.proofs.sorted.move_circle.Given as goal

-- the rows are still there
abbrev pub invariant-loop : goal.invariant-loop
invariant-loop l = IsPermutation l.fn.rows.items l.rows.items
