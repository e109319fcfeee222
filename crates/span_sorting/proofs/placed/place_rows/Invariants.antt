use Rattle.std.proofs.Common.{◌≡◌, ◌++◌, drop}
use Rattle.std.specs.List.{AllByRecursion}
use Rattle.span_sorting.specs.Codes.{uncoded}
use Rattle.span_sorting.specs.PlacesInOrder.{IsPlaced, without_places}
use Rattle.span_sorting.proofs.placed.place_rows.Given as goal

-- the rows so far, and those that are left
abbrev pub invariant-loop-place : goal.invariant-loop-place
invariant-loop-place l = record {
  rows : l.rows ≡ uncoded (without_places l.all.items) ++ drop l.place l.rows;
  placed : AllByRecursion (IsPlaced l.rows l.keys l.exact) l.all.items;
}
