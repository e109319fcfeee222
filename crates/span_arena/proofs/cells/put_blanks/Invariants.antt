use Rattle.std.proofs.Common.{◌≡◌, ◌+◌, ◌-◌, ◌≤◌, ◌++◌, replicate}
use Rattle.std.specs.Prelude.{vec_len, vec_capacity}
use Rattle.span_arena.specs.Cells.{blank}
use Rattle.span_arena.proofs.cells.put_blanks.Given as goal

-- the blanks so far, and the capacity for all
abbrev pub invariant-loop : goal.invariant-loop
invariant-loop l = record {
  blanks : l.cells.items ≡ l.fn.cells.items ++ replicate l.counter blank;
  capacity : vec_len l.cells + (l.count - l.counter) ≤ vec_capacity l.cells;
}
