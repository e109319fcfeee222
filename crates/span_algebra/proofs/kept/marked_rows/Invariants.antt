use Rattle.std.proofs.Common.{◌≡◌, ◌++◌, drop}
use Rattle.rayon.specs.Lists.{filter_by_mask}
use Rattle.span_rows.specs.LentRows.{lent_rows}
use Rattle.span_algebra.proofs.kept.marked_rows.Given as goal

-- the rows that are kept of those so far, and those of the rows that are left
abbrev pub invariant-loop-at : goal.invariant-loop-at
invariant-loop-at l =
    filter_by_mask (lent_rows l.fn.rows) l.fn.marks
    ≡ lent_rows l.kept.items ++ filter_by_mask (lent_rows (drop l.at l.fn.rows)) (drop l.at l.fn.marks)
