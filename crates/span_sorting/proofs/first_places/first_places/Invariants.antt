use Rattle.std.proofs.Common.{◌≤◌, length}
use Rattle.span_sorting.specs.PlacesInOrder.{AreFirst}
use Rattle.span_sorting.proofs.first_places.first_places.Given as goal

-- the first, in order, of the rows that were taken from the end
abbrev pub invariant-loop-at : goal.invariant-loop-at
invariant-loop-at l = record {
  within : l.at ≤ length l.rows;
  first : AreFirst l.keys l.count l.rows l.at l.first.items;
}

abbrev pub decreases-loop-at : goal.decreases-loop-at
decreases-loop-at l = l.at
