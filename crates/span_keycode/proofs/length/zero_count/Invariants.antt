use Rattle.std.proofs.Common.{◌≡◌, ◌+◌, ◌≤◌, length, drop}
use Rattle.span_keycode.specs.Coding.{escaped}
use Rattle.span_keycode.proofs.length.zero_count.Given as goal

abbrev pub invariant-loop-byte : goal.invariant-loop-byte
invariant-loop-byte l = record {
  within : l.count ≤ l.byte-index;
  bytes : l.count + l.byte-index + length (escaped (drop l.byte-index l.bytes)) ≡ length (escaped l.bytes);
}
