use Rattle.std.proofs.Common.{◌≡◌, take}
use Rattle.span_sorting.proofs.rows_with_order.are_same_keys.Given as goal

abbrev pub invariant-loop-at : goal.invariant-loop-at
invariant-loop-at l = take l.at l.left ≡ take l.at l.right
