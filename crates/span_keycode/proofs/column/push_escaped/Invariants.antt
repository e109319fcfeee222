use Rattle.std.proofs.Common.{◌≡◌, ◌≤◌, ◌++◌, drop}
use Rattle.span_keycode.specs.Coding.{in_direction, escaped}
use Rattle.span_keycode.proofs.column.push_escaped.Given as goal

abbrev pub invariant-loop-byte : goal.invariant-loop-byte
invariant-loop-byte l = record {
  bytes : l.out.items ++ in_direction l.desc (escaped (drop l.byte-index l.bytes)) ≡ l.fn.out.items ++ in_direction l.desc (escaped l.bytes);
  capacity : l.fn.out.capacity ≤ l.out.capacity;
}
