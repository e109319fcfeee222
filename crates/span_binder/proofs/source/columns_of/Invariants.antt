use Rattle.std.proofs.Common.{◌≡◌, map, take}
use Rattle.span_blocks.specs.Sources.{table_column}
use Rattle.span_binder.proofs.source.columns_of.Given as goal

abbrev pub invariant-loop-column : goal.invariant-loop-column
invariant-loop-column l = l.all ≡ map table_column (take l.column-index l.columns)
