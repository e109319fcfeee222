use Rattle.std.proofs.Common.{◌≡◌, ◌++◌, drop}
use Rattle.span_sorting.specs.Codes.{uncoded}
use Rattle.span_rows.specs.LentRows.{lent_rows}
use Rattle.span_sorting.proofs.coded.uncode_rows.Given as goal

-- the rows so far, and those that are left
abbrev pub invariant-loop-row : goal.invariant-loop-row
invariant-loop-row l = uncoded l.rows ≡ lent_rows l.all.items ++ uncoded (drop l.row-index l.rows)
