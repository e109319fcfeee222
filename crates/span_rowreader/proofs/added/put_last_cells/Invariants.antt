use Rattle.std.proofs.Common.{◌≤◌, length}
use Rattle.span_rowreader.proofs.AddedCells.{CellsPutAt}
use Rattle.span_rowreader.proofs.added.put_last_cells.Given as goal

-- what is left of the cells
abbrev pub invariant-loop-i : goal.invariant-loop-i
invariant-loop-i l = record {
  most : l.i ≤ l.count;
  within : l.at ≤ length l.bytes;
  put : CellsPutAt l.wanted l.kinds l.places l.bytes l.fn.rows l.i l.at l.rows;
}
