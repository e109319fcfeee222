use Rattle.std.proofs.Common.{◌≡◌, ◌*◌, take}
use Rattle.span_keycode.proofs.compare.order_of_bytes.Given as goal

abbrev pub invariant-loop-word : goal.invariant-loop-word
invariant-loop-word l = take (l.word * 8) l.left ≡ take (l.word * 8) l.right
