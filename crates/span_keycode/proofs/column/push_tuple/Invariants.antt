use Rattle.std.proofs.Common.{◌≡◌, ◌≤◌, ◌++◌, drop}
use Rattle.span_keycode.specs.Coding.{tuple_code}
use Rattle.span_keycode.proofs.column.push_tuple.Given as goal

abbrev pub invariant-loop-i : goal.invariant-loop-i
invariant-loop-i l = record {
  bytes : l.out.items ++ tuple_code (drop l.i l.columns) (drop l.i l.values) ≡ l.fn.out.items ++ tuple_code l.columns l.values;
  capacity : l.fn.out.capacity ≤ l.out.capacity;
}
