use Rattle.std.proofs.Common.{◌≡◌, ◌++◌, drop, map}
use Rattle.span_query.specs.Groups.{columns_at}
use Rattle.span_rows.specs.LentRows.{lent_rows}
use Rattle.span_sorting.proofs.columns.copy_columns.Given as goal

-- the copies so far, and the rows that are left
abbrev pub invariant-loop-at : goal.invariant-loop-at
invariant-loop-at l = map (columns_at l.columns) (lent_rows l.rows) ≡ l.copies ++ map (columns_at l.columns) (lent_rows (drop l.at l.rows))
