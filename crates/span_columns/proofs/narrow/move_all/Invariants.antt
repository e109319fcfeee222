use Rattle.std.proofs.Common.{◌≡◌, ◌++◌, map, drop}
use Rattle.span_expr.specs.Places.{moved, rank}
use Rattle.span_columns.proofs.narrow.move_all.Given as goal

abbrev pub invariant-loop-expr : goal.invariant-loop-expr
invariant-loop-expr l = map (moved (rank l.mask)) l.exprs ≡ l.copies ++ map (moved (rank l.mask)) (drop l.expr-index l.exprs)
