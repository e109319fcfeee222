use Rattle.std.proofs.Common.{◌≤◌, length}
use Rattle.span_rowreader.proofs.Placing.{CellsLeftAt}
use Rattle.span_rowreader.proofs.cells.put_cells.Given as goal

-- what is left of the cells
abbrev pub invariant-loop-i : goal.invariant-loop-i
invariant-loop-i l = record {
  most : l.i ≤ l.count;
  within : l.at ≤ length l.bytes;
  left : CellsLeftAt l.wanted l.kinds l.places l.bytes l.fn.row.items l.i l.at l.row.items;
}
