use Rattle.std.proofs.Common.{◌≡◌, ◌++◌, false, drop}
use Rattle.span_schema.specs.Rules.{has_repeated_column}
use Rattle.span_checking.specs.Columns.{values_named}
use Rattle.span_checking.proofs.column.values_named.Given as goal

-- the values so far, and those that are left for the other columns
abbrev pub invariant-loop-column : goal.invariant-loop-column
invariant-loop-column l = record {
  so_far : l.values.items ++ values_named l.key l.left.items (drop l.column-index l.columns) ≡ values_named l.key l.fn.cells.items l.columns;
  once : has_repeated_column (drop l.column-index l.columns) ≡ false;
}
