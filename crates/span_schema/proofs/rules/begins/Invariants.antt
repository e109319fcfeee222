use Rattle.std.proofs.Common.{◌≡◌, drop}
use Rattle.span_schema.specs.Rules.{begins_key}
use Rattle.span_schema.proofs.rules.begins.Given as goal

abbrev pub invariant-loop-i : goal.invariant-loop-i
invariant-loop-i l = begins_key l.above.columns l.table.columns l.first l.second ≡ begins_key l.above.columns l.table.columns (drop l.i l.first) (drop l.i l.second)
