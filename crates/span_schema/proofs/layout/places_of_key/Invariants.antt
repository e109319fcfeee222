use Rattle.std.proofs.Common.{◌≡◌, ◌++◌, drop}
use Rattle.span_schema.specs.Layouts.{key_places}
use Rattle.span_schema.proofs.layout.places_of_key.Given as goal

abbrev pub invariant-loop-column : goal.invariant-loop-column
invariant-loop-column l = l.places.items ++ key_places l.columns (drop l.column-index l.key) ≡ key_places l.columns l.key
