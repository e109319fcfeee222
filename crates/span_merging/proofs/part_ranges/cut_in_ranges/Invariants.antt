use Rattle.std.proofs.Common.{◌≡◌, ◌++◌}
use Rattle.std.specs.List.{AllByRecursion}
use Rattle.span_query.specs.Sorting.{sorted}
use Rattle.span_merging.specs.PartPlaces.{joined}
use Rattle.span_merging.specs.PartRanges.{IsRangeOf, rows_of_ranges}
use Rattle.span_merging.specs.PartRests.{IsRest, lists_of_rests, rows_of_rests}
use Rattle.span_merging.proofs.part_ranges.cut_in_ranges.Given as goal

-- the ranges so far, and what is left after them
abbrev pub invariant-loop-place : goal.invariant-loop-place
invariant-loop-place l = record {
  lists : lists_of_rests l.rests.items ≡ lists_of_rests l.all.rests.items;
  rests : AllByRecursion (IsRest l.keys l.all.are_exact) l.rests.items;
  ranges : AllByRecursion (IsRangeOf l.keys l.all.rests.items) l.ranges.items;
  rows : sorted l.keys (joined (rows_of_rests l.all.rests.items)) ≡ rows_of_ranges l.keys l.ranges.items ++ sorted l.keys (joined (rows_of_rests l.rests.items));
}
