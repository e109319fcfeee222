use Rattle.std.proofs.Common.{◌≡◌, ◌++◌, take, drop}
use Rattle.span_query.specs.Sorting.{comes_before, insert_sorted}
use Rattle.span_rows.specs.LentRows.{lent_rows}
use Rattle.span_sorting.proofs.first_rows.place_in_order.Given as goal

-- the rows that the loop has passed come before the row
abbrev pub invariant-loop-at : goal.invariant-loop-at
invariant-loop-at l = insert_sorted (comes_before l.keys) l.row (lent_rows l.rows) ≡ take l.at (lent_rows l.rows) ++ insert_sorted (comes_before l.keys) l.row (drop l.at (lent_rows l.rows))
