use Rattle.std.proofs.Common.{◌≡◌, take}
use Rattle.std.specs.List.{AllByRecursion}
use Rattle.span_query.specs.Sorting.{sorted}
use Rattle.span_merging.specs.PartPlaces.{joined, lists}
use Rattle.span_merging.specs.PartRests.{IsRest, lists_of_rests, rows_of_rests}
use Rattle.span_merging.proofs.parts.rests_of.Given as goal

-- the lists so far
abbrev pub invariant-loop-part : goal.invariant-loop-part
invariant-loop-part l = record {
  listed : lists_of_rests l.rests.items ≡ take l.part-index (lists l.parts);
  rests : AllByRecursion (IsRest l.keys l.are_exact) l.rests.items;
  rows : sorted l.keys (joined (rows_of_rests l.rests.items)) ≡ sorted l.keys (joined (take l.part-index (lists l.parts)));
}
