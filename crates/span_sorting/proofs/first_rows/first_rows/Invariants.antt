use Rattle.std.proofs.Common.{◌≡◌, ◌≤◌, drop, length, take}
use Rattle.span_query.specs.Sorting.{sorted}
use Rattle.span_rows.specs.LentRows.{lent_rows}
use Rattle.span_sorting.proofs.first_rows.first_rows.Given as goal

-- the first, in order, of the rows that were taken from the end
abbrev pub invariant-loop-at : goal.invariant-loop-at
invariant-loop-at l = record {
  within : l.at ≤ length l.rows;
  first : lent_rows l.first.items ≡ take l.count (sorted l.keys (lent_rows (drop l.at l.rows)));
}

abbrev pub decreases-loop-at : goal.decreases-loop-at
decreases-loop-at l = l.at
