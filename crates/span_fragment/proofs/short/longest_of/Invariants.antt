use Rattle.std.proofs.Common.{drop, take}
use Rattle.std.specs.List.{AllByRecursion}
use Rattle.span_schema.specs.Numbers.{IsTable}
use Rattle.span_entries.specs.Longest.{AreLongest}
use Rattle.span_fragment.proofs.short.longest_of.Given as goal

-- no key of the tables so far is longer
abbrev pub invariant-loop-table : goal.invariant-loop-table
invariant-loop-table l = record {
  tables : AllByRecursion (IsTable l.schema) (drop l.table-index l.tables);
  longest : AreLongest l.schema (take l.table-index l.tables) l.most;
}
