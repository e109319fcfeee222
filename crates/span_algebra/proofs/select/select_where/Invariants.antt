use Rattle.std.proofs.Common.{◌≡◌, drop, Some}
use Rattle.span_query.specs.Rows.{◌>>=◌, append_results, concat_map, filter_where, project_rows}
use Rattle.span_algebra.specs.Selecting.{project_row}
use Rattle.span_algebra.proofs.select.select_where.Given as goal

-- the rows so far, and what the rows that are left give
abbrev pub invariant-loop-at : goal.invariant-loop-at
invariant-loop-at l = (filter_where l.filter l.rows >>= project_rows l.outputs) ≡ append_results (Some l.found) (concat_map (project_row l.filter l.outputs) (drop l.at l.rows))
