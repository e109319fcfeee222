use Rattle.std.proofs.Common.{◌≡◌, ◌++◌, drop}
use Rattle.span_rows.specs.LentRows.{lent_rows}
use Rattle.span_rows.proofs.row_list.lent_rows.Given as goal

abbrev pub invariant-loop-at : goal.invariant-loop-at
invariant-loop-at l = l.rows ≡ lent_rows l.all.items ++ drop l.at l.rows
