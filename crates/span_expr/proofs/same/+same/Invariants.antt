use Rattle.std.proofs.Common.{◌≡◌, take}
use Rattle.span_expr.proofs.same.+same.Given as goal

abbrev pub invariant-are_same-loop-at : goal.invariant-are_same-loop-at
invariant-are_same-loop-at l = take l.at l.operands ≡ take l.at l.others

abbrev pub invariant-are_same_links-loop-at : goal.invariant-are_same_links-loop-at
invariant-are_same_links-loop-at l = take l.at l.links ≡ take l.at l.others

abbrev pub invariant-are_same_arms-loop-at : goal.invariant-are_same_arms-loop-at
invariant-are_same_arms-loop-at l = take l.at l.arms ≡ take l.at l.others
