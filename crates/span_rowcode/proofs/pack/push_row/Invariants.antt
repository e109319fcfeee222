use Rattle.std.proofs.Common.{◌≡◌, ◌≤◌, ◌++◌, length, drop}
use Rattle.span_rowcode.specs.Rows.{row_code}
use Rattle.span_rowcode.specs.declared.pack.TheConstants.{LONGEST_ROW}
use Rattle.span_rowcode.proofs.pack.push_row.Given as goal

abbrev pub invariant-loop-cell : goal.invariant-loop-cell
invariant-loop-cell l = record {
  short : length (row_code (drop l.cell-index l.cells)) ≤ LONGEST_ROW;
  code : l.out.items ++ row_code (drop l.cell-index l.cells) ≡ l.fn.out.items ++ row_code l.cells;
}
