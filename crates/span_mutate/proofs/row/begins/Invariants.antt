use Rattle.std.proofs.Common.{◌≡◌, drop}
use Rattle.span_mutate.specs.Rows.{begins}
use Rattle.span_mutate.proofs.row.begins.Given as goal

abbrev pub invariant-loop-i : goal.invariant-loop-i
invariant-loop-i l = begins l.front l.values ≡ begins (drop l.i l.front) (drop l.i l.values)
