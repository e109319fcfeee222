use Rattle.std.proofs.Common.{◌≡◌, drop}
use Rattle.span_schema.specs.Rules.{has_repeated_key}
use Rattle.span_schema.proofs.rules.repeats_key_column.Given as goal

abbrev pub invariant-loop-i : goal.invariant-loop-i
invariant-loop-i l = has_repeated_key l.key ≡ has_repeated_key (drop l.i l.key)
