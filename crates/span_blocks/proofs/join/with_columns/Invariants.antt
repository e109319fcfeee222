use Rattle.std.proofs.Common.{◌≡◌, ◌++◌, map, take}
use Rattle.span_blocks.specs.Sources.{scope_column}
use Rattle.span_blocks.proofs.join.with_columns.Given as goal

abbrev pub invariant-loop-column : goal.invariant-loop-column
invariant-loop-column l = l.all ≡ l.fn.before ++ map (scope_column l.item) (take l.column-index l.columns)
