use Rattle.std.proofs.Common.{◌≡◌, drop, Some}
use Rattle.span_query.specs.Rows.{append_results, filter_rows}
use Rattle.span_rows.specs.LentRows.{lent_rows}
use Rattle.span_algebra.proofs.kept.lend_met.Given as goal

-- the rows that are kept of those so far, and those of the rows that are left
abbrev pub invariant-loop-at : goal.invariant-loop-at
invariant-loop-at l = filter_rows l.condition l.rows ≡ append_results (Some (lent_rows l.kept.items)) (filter_rows l.condition (drop l.at l.rows))
