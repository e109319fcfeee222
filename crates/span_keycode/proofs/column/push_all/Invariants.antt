use Rattle.std.proofs.Common.{◌≡◌, ◌≤◌, ◌++◌, drop}
use Rattle.span_keycode.specs.Coding.{in_direction}
use Rattle.span_keycode.proofs.column.push_all.Given as goal

abbrev pub invariant-loop-byte : goal.invariant-loop-byte
invariant-loop-byte l = record {
  bytes : l.out.items ++ in_direction l.desc (drop l.byte-index l.bytes) ≡ l.fn.out.items ++ in_direction l.desc l.bytes;
  capacity : l.fn.out.capacity ≤ l.out.capacity;
}
