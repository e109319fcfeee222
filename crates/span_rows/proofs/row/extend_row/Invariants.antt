use Rattle.std.proofs.Common.{◌≡◌, ◌≤◌, ◌+◌, ◌++◌, length, take}
use Rattle.std.specs.Vec.{vec_len, vec_capacity}
use Rattle.span_rows.proofs.row.extend_row.Given as goal

-- the values so far, and capacity for the others
abbrev pub invariant-loop-value : goal.invariant-loop-value
invariant-loop-value l = record {
  values : l.row.items ≡ l.fn.row.items ++ take l.value-index l.more;
  capacity : vec_len l.row + length l.more ≤ vec_capacity l.row + l.value-index;
}
