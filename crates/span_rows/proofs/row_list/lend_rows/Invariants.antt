use Rattle.std.proofs.Common.{◌≡◌, ◌++◌, drop}
use Rattle.span_rows.specs.LentRows.{lent_rows}
use Rattle.span_rows.proofs.row_list.lend_rows.Given as goal

-- the rows so far, and those that are left
abbrev pub invariant-loop-at : goal.invariant-loop-at
invariant-loop-at l = lent_rows l.all.items ++ drop l.at l.more ≡ lent_rows l.fn.all.items ++ l.more
