use Rattle.std.proofs.Common.{◌≡◌, drop}
use Rattle.span_schema.specs.Rules.{has_repeated_column}
use Rattle.span_schema.proofs.rules.repeats_column.Given as goal

abbrev pub invariant-loop-i : goal.invariant-loop-i
invariant-loop-i l = has_repeated_column l.columns ≡ has_repeated_column (drop l.i l.columns)
