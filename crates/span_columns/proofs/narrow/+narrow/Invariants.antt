use Rattle.std.proofs.Common.{◌≡◌, ◌++◌, map, drop}
use Rattle.span_expr.specs.Places.{rank}
use Rattle.span_query.specs.Layers.{map_item, map_join, map_block}
use Rattle.span_query.proofs.Sizes.{query_size, all_sizes, item_size, block_size, join_size}
use Rattle.span_columns.specs.Narrow.{narrow, narrow_join, narrow_block}
use Rattle.span_columns.specs.Reads.{masks_of}
use Rattle.span_columns.proofs.narrow.+narrow.Given as goal

-- the items so far, and those that are left
abbrev pub invariant-narrow_joins-loop-join : goal.invariant-narrow_joins-loop-join
invariant-narrow_joins-loop-join l =
    map (narrow_join (masks_of l.leaves) (rank l.mask)) (map (map_join (narrow (masks_of l.leaves))) l.joins)
    ≡ l.narrowed ++ map (narrow_join (masks_of l.leaves) (rank l.mask)) (map (map_join (narrow (masks_of l.leaves))) (drop l.join-index l.joins))

-- the blocks so far, and those that are left
abbrev pub invariant-narrow_blocks-loop-block : goal.invariant-narrow_blocks-loop-block
invariant-narrow_blocks-loop-block l =
    map (narrow_block (masks_of l.leaves)) (map (map_block (narrow (masks_of l.leaves))) l.blocks)
    ≡ l.narrowed ++ map (narrow_block (masks_of l.leaves)) (map (map_block (narrow (masks_of l.leaves))) (drop l.block-index l.blocks))

abbrev pub decreases-narrow_query : goal.decreases-narrow_query
decreases-narrow_query a = query_size a.query.now

abbrev pub decreases-narrow_blocks : goal.decreases-narrow_blocks
decreases-narrow_blocks a = all_sizes block_size (map (map_block query_size) a.blocks.now)

abbrev pub decreases-narrow_block : goal.decreases-narrow_block
decreases-narrow_block a = block_size (map_block query_size a.block.now)

abbrev pub decreases-narrow_joins : goal.decreases-narrow_joins
decreases-narrow_joins a = all_sizes join_size (map (map_join query_size) a.joins.now)

abbrev pub decreases-narrow_item : goal.decreases-narrow_item
decreases-narrow_item a = item_size (map_item query_size a.item.now)
