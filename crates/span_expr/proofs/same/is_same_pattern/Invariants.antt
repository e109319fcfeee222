use Rattle.std.proofs.Common.{◌≡◌, take}
use Rattle.span_expr.proofs.same.is_same_pattern.Given as goal

abbrev pub invariant-loop-at : goal.invariant-loop-at
invariant-loop-at l = take l.at l.pattern ≡ take l.at l.other
