use Rattle.std.proofs.Common.{drop}
use Rattle.span_keycode.specs.Coding.{tuple_code}
use Rattle.span_keycode.proofs.Comparing.{IsLeft}
use Rattle.span_keycode.proofs.root_order.after_tuple.Given as goal

abbrev pub invariant-loop-i : goal.invariant-loop-i
invariant-loop-i l = IsLeft (tuple_code l.columns l.values) l.fn.bytes (tuple_code (drop l.i l.columns) (drop l.i l.values)) l.rest
