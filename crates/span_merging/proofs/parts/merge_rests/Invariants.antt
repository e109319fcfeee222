use Rattle.std.proofs.Common.{◌≡◌, ◌++◌, length}
use Rattle.std.specs.List.{AllByRecursion}
use Rattle.span_query.specs.Sorting.{sorted}
use Rattle.span_merging.specs.PartPlaces.{IsPlaceIn, joined, rows_in}
use Rattle.span_merging.specs.PartRests.{IsPartOrder, IsRest, lists_of_rests, rows_of_rests}
use Rattle.span_merging.proofs.parts.merge_rests.Given as goal

-- the rows at the places so far, and those that are left
abbrev pub invariant-loop-places : goal.invariant-loop-places
invariant-loop-places l = record {
  listed : lists_of_rests l.rests.items ≡ lists_of_rests l.fn.all.rests.items;
  rests : AllByRecursion (IsRest l.keys l.are_exact) l.rests.items;
  order : IsPartOrder l.keys l.rests.items l.order.items;
  within : AllByRecursion (IsPlaceIn (lists_of_rests l.fn.all.rests.items)) l.places.items;
  rows : rows_in (lists_of_rests l.fn.all.rests.items) l.places.items ++ sorted l.keys (joined (rows_of_rests l.rests.items))
      ≡ sorted l.keys (joined (rows_of_rests l.fn.all.rests.items));
}

abbrev pub decreases-loop-places : goal.decreases-loop-places
decreases-loop-places l = length (sorted l.keys (joined (rows_of_rests l.rests.items)))
