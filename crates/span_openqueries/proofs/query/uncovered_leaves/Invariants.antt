use Rattle.std.proofs.Common.{◌≡◌, ◌++◌, length, map}
use Rattle.std.specs.Prelude.{reverse}
use Rattle.span_machine.specs.Machine.{uncovered}
use Rattle.span_openqueries.proofs.query.uncovered_leaves.Given as goal

-- the leaves that are left, and then those that were taken from the end
abbrev pub invariant-loop-leaf : goal.invariant-loop-leaf
invariant-loop-leaf l = map uncovered l.fn.leaves ≡ map uncovered l.left ++ reverse l.found.items

abbrev pub decreases-loop-leaf : goal.decreases-loop-leaf
decreases-loop-leaf l = length l.left
