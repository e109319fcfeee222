use Rattle.std.proofs.Common.{◌≡◌, drop}
use Rattle.span_mutate.specs.Rows.{order_from}
use Rattle.span_mutate.proofs.row.key_order.Given as goal

abbrev pub invariant-loop-i : goal.invariant-loop-i
invariant-loop-i l = order_from l.columns 0 l.left l.right ≡ order_from l.columns l.i (drop l.i l.left) (drop l.i l.right)
