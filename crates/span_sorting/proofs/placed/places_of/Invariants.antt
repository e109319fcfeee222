use Rattle.std.proofs.Common.{◌≡◌, ◌++◌, drop, map}
use Rattle.span_sorting.specs.PlacesInOrder.{coded_place}
use Rattle.span_sorting.proofs.placed.places_of.Given as goal

-- the places so far, and those of the rows that are left
abbrev pub invariant-loop-row : goal.invariant-loop-row
invariant-loop-row l = map coded_place l.rows ≡ l.places.items ++ map coded_place (drop l.row-index l.rows)
