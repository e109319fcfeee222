use Rattle.std.proofs.Common.{rules, ◌≡◌, ◌∙◌, ap, subst, map, IfOk, List}
use Rattle.std.proofs.lemmas.Result.{IfOk-at_ok}
use Rattle.span_query.specs.declared.query.Block.{Block}
use Rattle.span_query.specs.declared.query.Join.{Join}
use Rattle.span_query.specs.declared.query.BoundQuery.{BoundQuery}
use Rattle.span_query.specs.Layers.{map_join, map_block}
use Rattle.span_query.proofs.Sizes.{query_size, block_size, join_size, smaller_at}
use Rattle.span_expr.specs.Places.{rank}
use Rattle.span_columns.specs.Narrow.{narrow, narrow_join, narrow_block}
use Rattle.span_columns.specs.Reads.{masks_of}
use Rattle.span_columns.proofs.Layered.{one_more, join_is, block_is, query_is}
use Rattle.span_columns.proofs.narrow.+narrow.Goals as goal

pub narrow_block-returns : goal.narrow_block-returns
narrow_block-returns t c =
    let masks = masks_of c.args.leaves.now in
    let mask = c.as_slice-mask.result.now in
    subst (λ (b : Block BoundQuery). IfOk c.move_block.result (λ found. found ≡ b))
    (block_is masks c.args.block.now mask c.in_ok-from.from c.in_ok-joins.joins (c.as_slice-mask.ensures.value ∙ c.in_ok-mask.ensures) c.in_ok-from.ensures
    (c.in_ok-joins.ensures ∙ ap (λ js. map (narrow_join masks (rank mask)) (map (map_join (narrow masks)) js)) c.as_slice.ensures))
    c.move_block.ensures

pub narrow_blocks-narrow_block-requires : goal.narrow_blocks-narrow_block-requires
narrow_blocks-narrow_block-requires t c =
    let below = smaller_at block_size (map_block query_size) c.args.blocks.now c.loop-block.block-index c.block-item.result c.loop-block-test.true c.block-item.is in
    search (rules, below)

pub narrow_blocks-loop-block-preserved : goal.narrow_blocks-loop-block-preserved
narrow_blocks-loop-block-preserved t c =
    let masks = masks_of c.args.leaves.now in
    one_more (narrow_block masks) (map_block (narrow masks)) c.args.blocks.now c.loop-block.block-index c.block-item.result c.loop-block.narrowed c.push.new.self _ c.in_ok-above.above
    c.loop-block-test.true c.block-item.is c.loop-block.invariant c.in_ok-push.ensures.ok c.in_ok-above.ensures

pub narrow_joins-narrow_item-requires : goal.narrow_joins-narrow_item-requires
narrow_joins-narrow_item-requires t c =
    let below = smaller_at join_size (map_join query_size) c.args.joins.now c.loop-join.join-index c.join-item.result c.loop-join-test.true c.join-item.is in
    search (rules, below)

pub narrow_joins-loop-join-preserved : goal.narrow_joins-loop-join-preserved
narrow_joins-loop-join-preserved t c =
    let masks = masks_of c.args.leaves.now in
    let f = rank c.args.mask.now in
    let made : Join BoundQuery = record { is_left = c.join-item.result.is_left; item = c.in_ok-item.item; width = c.item_width-width.result; on = c.in_ok-on.on } in
    one_more (narrow_join masks f) (map_join (narrow masks)) c.args.joins.now c.loop-join.join-index c.join-item.result c.loop-join.narrowed c.push.new.self _ made
    c.loop-join-test.true c.join-item.is c.loop-join.invariant c.in_ok-push.ensures.ok
    (join_is masks f c.join-item.result c.in_ok-item.item c.item_width-width.result c.in_ok-on.on c.in_ok-item.ensures c.item_width-width.ensures c.in_ok-on.ensures)

pub narrow_query-returns : goal.narrow_query-returns
narrow_query-returns t c =
    let masks = masks_of c.args.leaves.now in
    let blocks : List (Block BoundQuery) → List (Block BoundQuery) = λ bs. map (narrow_block masks) (map (map_block (narrow masks)) bs) in
    let others = IfOk-at_ok (λ found. found ≡ blocks c.as_slice-2.result.now) c.in_ok-first-2.ensures.1 c.narrow_blocks-others.ensures in
    query_is masks c.args.query.now c.in_ok-first-2.first c.in_ok-first-2.others c.in_ok-order.order
    (c.in_ok-first-2.ensures.0 ∙ c.in_ok-first.ensures) (others ∙ ap blocks c.as_slice-2.ensures) (c.in_ok-order.ensures ∙ c.as_slice.ensures)
