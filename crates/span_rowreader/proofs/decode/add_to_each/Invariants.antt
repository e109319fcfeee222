use Rattle.std.proofs.Common.{◌≡◌, length}
use Rattle.span_rowreader.proofs.ReadTables.{AddedSoFar}
use Rattle.span_rowreader.proofs.decode.add_to_each.Given as goal

-- the entry's row was added to those of the readers so far
abbrev pub invariant-loop-at : goal.invariant-loop-at
invariant-loop-at l = record {
  lists : length l.found.items ≡ length l.readers;
  added : AddedSoFar l.schema l.readers l.entry.key.now l.entry.row.now l.fn.found.items l.at l.found.items;
}
