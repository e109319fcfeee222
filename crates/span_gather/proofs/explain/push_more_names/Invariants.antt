use Rattle.std.proofs.Common.{◌≡◌, ◌++◌, drop, string_bytes}
use Rattle.span_gather.specs.Explained.{more_names}
use Rattle.span_gather.proofs.explain.push_more_names.Given as goal

-- the names so far, and those of the tables that are left
abbrev pub invariant-loop-table : goal.invariant-loop-table
invariant-loop-table l = string_bytes l.out ++ more_names l.schema (drop l.table-index l.tables) ≡ string_bytes l.fn.out ++ more_names l.schema l.tables
