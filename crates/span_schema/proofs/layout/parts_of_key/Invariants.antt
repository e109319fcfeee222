use Rattle.std.proofs.Common.{◌≡◌, ◌++◌, drop}
use Rattle.span_schema.specs.Layouts.{key_parts}
use Rattle.span_schema.proofs.layout.parts_of_key.Given as goal

abbrev pub invariant-loop-column : goal.invariant-loop-column
invariant-loop-column l = l.parts.items ++ key_parts l.columns (drop l.column-index l.key) ≡ key_parts l.columns l.key
