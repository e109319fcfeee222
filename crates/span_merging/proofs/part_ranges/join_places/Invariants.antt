use Rattle.std.proofs.Common.{◌≡◌, ◌++◌, flat_map, length}
use Rattle.std.specs.List.{AllByRecursion}
use Rattle.std.specs.Vec.Iter.{into_iter_items, into_iter_len}
use Rattle.span_merging.proofs.PartRanges.{WasMade, places_made}
use Rattle.span_merging.proofs.part_ranges.join_places.Given as goal

-- the places of the ranges so far
abbrev pub invariant-loop-made_places : goal.invariant-loop-made_places
invariant-loop-made_places l = record {
  are : l.places.items ≡ flat_map places_made l.yielded;
  made : AllByRecursion WasMade l.yielded;
  rest : l.yielded ++ into_iter_items l.made_places-iterator ≡ l.fn.made.items;
  count : into_iter_len l.made_places-iterator ≡ length (into_iter_items l.made_places-iterator);
}
