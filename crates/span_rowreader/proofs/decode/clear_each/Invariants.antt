use Rattle.std.proofs.Common.{◌≡◌, ◌++◌, [], drop, length, replicate}
use Rattle.span_rowreader.proofs.decode.clear_each.Given as goal

-- the lists before a place have no rows, and the others are as they were
abbrev pub invariant-loop-at : goal.invariant-loop-at
invariant-loop-at l = record {
  long : length l.lists.items ≡ length l.fn.lists.items;
  cleared : l.lists.items ≡ replicate l.at [] ++ drop l.at l.fn.lists.items;
}
