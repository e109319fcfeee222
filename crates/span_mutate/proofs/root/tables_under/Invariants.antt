use Rattle.std.proofs.Common.{◌≡◌, ◌+◌, ◌-◌, ◌++◌, length}
use Rattle.std.specs.List.{filter, range_with_len}
use Rattle.span_mutate.specs.Database.{is_at_or_below, tables_under}
use Rattle.span_mutate.proofs.root.tables_under.Given as goal

abbrev pub invariant-loop-i : goal.invariant-loop-i
invariant-loop-i l = l.found.items ++ filter (is_at_or_below l.schema l.table) (range_with_len (l.i + 1) (length l.schema - l.i)) ≡ tables_under l.schema l.table
