use Rattle.std.proofs.Common.{drop}
use Rattle.span_keycode.specs.Coding.{in_direction}
use Rattle.span_keycode.proofs.Comparing.{IsLeft}
use Rattle.span_keycode.proofs.root_order.after_all.Given as goal

abbrev pub invariant-loop-byte : goal.invariant-loop-byte
invariant-loop-byte l = IsLeft (in_direction l.desc l.code) l.fn.bytes (in_direction l.desc (drop l.byte-index l.code)) l.rest
