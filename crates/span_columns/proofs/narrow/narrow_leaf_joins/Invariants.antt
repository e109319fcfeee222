use Rattle.std.proofs.Common.{◌≡◌, ◌++◌, drop}
use Rattle.span_expr.specs.Places.{rank}
use Rattle.span_columns.specs.Narrow.{narrow_joins}
use Rattle.span_columns.proofs.narrow.narrow_leaf_joins.Given as goal

-- the joins so far, and those that are left
abbrev pub invariant-loop-join : goal.invariant-loop-join
invariant-loop-join l = narrow_joins (rank l.mask) l.joins l.later ≡ l.narrowed ++ narrow_joins (rank l.mask) (drop l.join-index l.joins) l.rest
