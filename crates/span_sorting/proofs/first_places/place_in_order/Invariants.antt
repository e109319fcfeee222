use Rattle.std.proofs.Common.{◌≡◌, ◌++◌, take, drop}
use Rattle.span_query.specs.Sorting.{insert_sorted}
use Rattle.span_sorting.specs.PlacesInOrder.{placed_before}
use Rattle.span_sorting.proofs.first_places.place_in_order.Given as goal

-- the rows that the loop has passed come before the row
abbrev pub invariant-loop-at : goal.invariant-loop-at
invariant-loop-at l = insert_sorted (placed_before l.keys) l.row l.rows ≡ take l.at l.rows ++ insert_sorted (placed_before l.keys) l.row (drop l.at l.rows)
