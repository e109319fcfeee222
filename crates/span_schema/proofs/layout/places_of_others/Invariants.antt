use Rattle.std.proofs.Common.{◌≡◌, ◌++◌, drop}
use Rattle.span_schema.specs.Layouts.{other_places}
use Rattle.span_schema.proofs.layout.places_of_others.Given as goal

abbrev pub invariant-loop-i : goal.invariant-loop-i
invariant-loop-i l = l.places.items ++ other_places l.key l.i (drop l.i l.columns) ≡ other_places l.key 0 l.columns
