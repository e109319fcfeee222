use Rattle.std.proofs.Common.{◌≡◌, ◌≤◌, ◌-◌, length, drop}
use Rattle.span_keycode.specs.Coding.{in_direction, AreBytes}
use Rattle.span_keycode.specs.Texts.{text_at, prepend}
use Rattle.span_keycode.proofs.text.read_text.Given as goal

abbrev pub invariant-loop-byte : goal.invariant-loop-byte
invariant-loop-byte l = record {
  within : l.at ≤ length l.bytes;
  bytes : AreBytes l.text.items;
  same : prepend l.text.items (text_at (in_direction l.desc (drop l.at l.bytes))) ≡ text_at (in_direction l.desc l.bytes);
}

abbrev pub decreases-loop-byte : goal.decreases-loop-byte
decreases-loop-byte l = length l.bytes - l.at
