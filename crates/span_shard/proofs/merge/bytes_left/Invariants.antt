use Rattle.std.proofs.Common.{◌≡◌, ◌≤◌, ◌+◌, length, drop}
use Rattle.span_rowcode.specs.Rows.{row_code}
use Rattle.span_rowcode.specs.declared.pack.TheConstants.{LONGEST_ROW}
use Rattle.span_mutate.specs.Database.{merge_cells}
use Rattle.span_shard.proofs.merge.bytes_left.Given as goal

abbrev pub invariant-loop-i : goal.invariant-loop-i
invariant-loop-i l = record {
  most : l.left ≤ LONGEST_ROW;
  total : LONGEST_ROW + length (row_code (merge_cells (drop l.i l.named) (drop l.i l.old))) ≡ l.left + length (row_code (merge_cells l.named l.old));
}
