use Rattle.std.proofs.Common.{◌≡◌, ◌++◌, map, drop}
use Rattle.span_expr.specs.Places.{rank}
use Rattle.span_columns.proofs.narrow.move_keys.Given as goal

abbrev pub invariant-loop-key : goal.invariant-loop-key
invariant-loop-key l = map (rank l.mask) l.keys ≡ l.moved ++ map (rank l.mask) (drop l.key-index l.keys)
