use Rattle.std.proofs.Common.{◌≡◌, length}
use Rattle.span_rowreader.proofs.ReadTables.{PassSoFar}
use Rattle.span_rowreader.proofs.decode.read_tables.Given as goal

-- the rows of each reader so far, and the entries that are left
abbrev pub invariant-loop-entry : goal.invariant-loop-entry
invariant-loop-entry l = record {
  lists : length l.found.items ≡ length l.readers;
  so_far : PassSoFar l.schema l.entries l.readers l.entry-index l.found.items;
}
