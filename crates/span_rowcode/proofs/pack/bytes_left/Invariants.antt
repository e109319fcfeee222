use Rattle.std.proofs.Common.{◌≡◌, ◌≤◌, ◌+◌, length, drop}
use Rattle.span_rowcode.specs.Rows.{row_code}
use Rattle.span_rowcode.specs.declared.pack.TheConstants.{LONGEST_ROW}
use Rattle.span_rowcode.proofs.pack.bytes_left.Given as goal

abbrev pub invariant-loop-cell : goal.invariant-loop-cell
invariant-loop-cell l = record {
  most : l.left ≤ LONGEST_ROW;
  total : LONGEST_ROW + length (row_code (drop l.cell-index l.cells)) ≡ l.left + length (row_code l.cells);
}
