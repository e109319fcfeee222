use Rattle.std.proofs.Common.{◌≡◌, ◌++◌, drop}
use Rattle.span_query.specs.Groups.{columns_at}
use Rattle.span_sorting.proofs.columns.put_numbers.Given as goal

-- the values so far, and those of the columns that are left
abbrev pub invariant-loop-column : goal.invariant-loop-column
invariant-loop-column l = columns_at l.columns l.row ≡ l.values.items ++ columns_at (drop l.column-index l.columns) l.row
