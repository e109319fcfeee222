use Rattle.std.proofs.Common.{take, drop}
use Rattle.span_rowcode.proofs.RowReads.{IsCells, IsNoCells}
use Rattle.span_rowcode.proofs.unpack.read_row.Given as goal

abbrev pub invariant-loop-i : goal.invariant-loop-i
invariant-loop-i l = record {
  read : IsCells (take l.i l.kinds) l.bytes l.cells.items l.at;
  back : IsNoCells (drop l.i l.kinds) (drop l.at l.bytes) → IsNoCells l.kinds l.bytes;
}
