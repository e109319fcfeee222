use Rattle.std.proofs.Common.{◌≡◌, take}
use Rattle.span_rows.specs.Columns.{distinct_at}
use Rattle.span_rows.specs.LentRows.{lent_rows}
use Rattle.span_rows.proofs.distinct.columns_seen.Given as goal

abbrev pub invariant-loop-row : goal.invariant-loop-row
invariant-loop-row l = l.seen.keys ≡ distinct_at l.columns (lent_rows (take l.row-index l.rows))
