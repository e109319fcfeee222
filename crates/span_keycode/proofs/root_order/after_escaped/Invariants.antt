use Rattle.std.proofs.Common.{drop}
use Rattle.span_keycode.specs.Coding.{in_direction, escaped}
use Rattle.span_keycode.proofs.Comparing.{IsLeft}
use Rattle.span_keycode.proofs.root_order.after_escaped.Given as goal

abbrev pub invariant-loop-byte : goal.invariant-loop-byte
invariant-loop-byte l = IsLeft (in_direction l.desc (escaped l.text)) l.fn.bytes (in_direction l.desc (escaped (drop l.byte-index l.text))) l.rest
