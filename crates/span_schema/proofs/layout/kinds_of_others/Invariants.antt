use Rattle.std.proofs.Common.{◌≡◌, ◌++◌, drop}
use Rattle.span_schema.specs.Layouts.{other_kinds}
use Rattle.span_schema.proofs.layout.kinds_of_others.Given as goal

abbrev pub invariant-loop-column : goal.invariant-loop-column
invariant-loop-column l = l.kinds.items ++ other_kinds l.key (drop l.column-index l.columns) ≡ other_kinds l.key l.columns
