use Rattle.std.proofs.Common.{◌≡◌, ◌++◌, drop}
use Rattle.std.specs.List.{AllByRecursion}
use Rattle.span_sorting.specs.Codes.{IsCodedAs, uncoded}
use Rattle.span_rows.specs.LentRows.{lent_rows}
use Rattle.span_sorting.proofs.coded.code_rows.Given as goal

-- the rows so far, and those that are left
abbrev pub invariant-loop-row : goal.invariant-loop-row
invariant-loop-row l = record {
  rows : lent_rows l.rows ≡ uncoded l.all.items ++ lent_rows (drop l.row-index l.rows);
  coded : AllByRecursion (IsCodedAs l.keys l.exact) l.all.items;
}
