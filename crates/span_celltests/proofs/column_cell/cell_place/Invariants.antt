use Rattle.std.proofs.Common.{◌≤◌, ◌^◌}
use Rattle.span_celltests.proofs.CellTests.{RestAt}
use Rattle.span_celltests.proofs.column_cell.cell_place.Given as goal

-- the cells that are left
abbrev pub invariant-loop-i : goal.invariant-loop-i
invariant-loop-i l = record {
  most : l.i ≤ l.cell;
  place : l.at ≤ 2 ^ 33;
  left : RestAt l.kinds l.bytes l.i l.at;
}
