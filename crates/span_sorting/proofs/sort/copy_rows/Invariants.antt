use Rattle.std.proofs.Common.{◌≡◌, ◌++◌, drop}
use Rattle.span_rows.specs.LentRows.{lent_rows}
use Rattle.span_sorting.proofs.sort.copy_rows.Given as goal

-- the copies so far, and the rows that are left
abbrev pub invariant-loop-row : goal.invariant-loop-row
invariant-loop-row l = lent_rows l.rows ≡ l.copies ++ lent_rows (drop l.row-index l.rows)
