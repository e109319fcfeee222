use Rattle.std.proofs.Common.{◌≡◌, ◌++◌, map, drop, flat_map}
use Rattle.span_query.specs.Layers.{map_join}
use Rattle.span_columns.specs.Narrow.{narrow, join_columns}
use Rattle.span_columns.specs.Reads.{masks_of}
use Rattle.span_columns.proofs.narrow.add_joins.Given as goal

abbrev pub invariant-loop-join : goal.invariant-loop-join
invariant-loop-join l =
    l.initial.mask.items ++ flat_map (join_columns (masks_of l.leaves)) (map (map_join (narrow (masks_of l.leaves))) l.joins)
    ≡ l.mask.items ++ flat_map (join_columns (masks_of l.leaves)) (map (map_join (narrow (masks_of l.leaves))) (drop l.join-index l.joins))
