use Rattle.std.proofs.Common.{◌≡◌, ◌++◌, drop}
use Rattle.span_sorting.specs.PlacesInOrder.{places_from}
use Rattle.span_sorting.proofs.in_order.places_in_turn.Given as goal

-- the places so far, and those of the rows that are left
abbrev pub invariant-loop-place : goal.invariant-loop-place
invariant-loop-place l = places_from 0 l.rows ≡ l.places.items ++ places_from l.place (drop l.place l.rows)
