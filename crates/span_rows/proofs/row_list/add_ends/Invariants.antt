use Rattle.std.proofs.Common.{◌≡◌, ◌++◌, take}
use Rattle.span_rows.specs.Cuts.{shift}
use Rattle.span_rows.proofs.row_list.add_ends.Given as goal

-- the ends so far
abbrev pub invariant-loop-end : goal.invariant-loop-end
invariant-loop-end l = l.ends.items ≡ l.fn.ends.items ++ shift l.offset (take l.end-index l.more)
