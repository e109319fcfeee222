use Rattle.std.proofs.Common.{◌≡◌, ◌++◌, drop}
use Rattle.span_sorting.specs.Codes.{HaveCodes, coded_rows}
use Rattle.span_sorting.proofs.coded.add_rows.Given as goal

-- the rows so far, and those that are left
abbrev pub invariant-loop-at : goal.invariant-loop-at
invariant-loop-at l = record {
  rows : coded_rows l.fn.all ++ l.rows ≡ coded_rows l.all ++ drop l.at l.rows;
  coded : HaveCodes l.keys l.all;
}
