use Rattle.std.proofs.Common.{drop}
use Rattle.std.specs.List.{AllByRecursion}
use Rattle.span_schema.specs.Numbers.{IsTable}
use Rattle.span_rowreader.proofs.ReadTables.{ReadersSoFar}
use Rattle.span_rowreader.proofs.decode.table_readers.Given as goal

-- the readers so far, and the tables that are left
abbrev pub invariant-loop-table : goal.invariant-loop-table
invariant-loop-table l = record {
  tables : AllByRecursion (IsTable l.schema) (drop l.table-index l.tables);
  readers : ReadersSoFar l.schema l.mask l.tables l.rest (drop l.table-index l.tables) l.readers.items;
}
