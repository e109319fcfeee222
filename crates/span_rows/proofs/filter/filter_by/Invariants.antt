use Rattle.std.proofs.Common.{◌≡◌, drop, Some}
use Rattle.span_query.specs.Rows.{append_results, filter_rows}
use Rattle.span_rows.proofs.filter.filter_by.Given as goal

-- the rows that are kept of those so far, and those of the rows that are left
abbrev pub invariant-loop-at : goal.invariant-loop-at
invariant-loop-at l = filter_rows l.condition l.rows ≡ append_results (Some l.kept) (filter_rows l.condition (drop l.at l.rows))
