use Rattle.std.proofs.Common.{◌≡◌, ◌+◌, ◌-◌, ◌++◌, length}
use Rattle.std.specs.List.{filter, range_with_len}
use Rattle.span_mutate.specs.Database.{blocks_delete, tables_blocking_delete}
use Rattle.span_mutate.proofs.root.tables_blocking_delete.Given as goal

abbrev pub invariant-loop-i : goal.invariant-loop-i
invariant-loop-i l = l.found.items ++ filter (blocks_delete l.schema l.table) (range_with_len (l.i + 1) (length l.schema - l.i)) ≡ tables_blocking_delete l.schema l.table
