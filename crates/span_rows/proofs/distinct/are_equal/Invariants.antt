use Rattle.std.proofs.Common.{◌≡◌, drop}
use Rattle.span_query.specs.Groups.{are_equal}
use Rattle.span_rows.proofs.distinct.are_equal.Given as goal

abbrev pub invariant-loop-at : goal.invariant-loop-at
invariant-loop-at l = are_equal l.left l.right ≡ are_equal (drop l.at l.left) (drop l.at l.right)
