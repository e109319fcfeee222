use Rattle.std.proofs.Common.{ap, sym, subst}
use Rattle.span_arena.specs.Cells.{cell_at}
use Rattle.span_arena.specs.Content.{Content}
use Rattle.span_keytree.specs.declared.join.GrownPart.{GrownPart}
use Rattle.span_keytree.specs.Lasts.{IsHangCost, with_root, IsStop}
use Rattle.span_keytree.specs.Puts.{tree_at, IsAdded}
use Rattle.span_keytree.proofs.Stopping.{stop_of, stop_inside, part_tree, part_free, part_above, part_ready, part_added, part_cost}
use Rattle.span_keytree.proofs.last.hang_last.Goals as goal

pub links-right-requires : goal.links-right-requires
links-right-requires g c =
    let stop : IsStop c.in-Some.above (tree_at c.args.arena.now.cells c.args.levels c.args.root) = stop_of (tree_at c.args.arena.now.cells c.args.levels c.args.root) c.args.stop c.in-Some.above c.in-Some.is c.requires.stop in
    stop_inside c.args.arena.now.cells c.args.levels c.args.root (cell_at c.args.arena.now.cells c.args.part.now.cell).key c.args.part.now.cell c.in-Some.above stop.left stop.key stop.balance stop.right c.requires.tree stop.there stop.uneven c.requires.above c.requires.free

pub hang-requires-2-clause-tree : goal.hang-requires-2-clause-tree
hang-requires-2-clause-tree g c =
    let stop : IsStop c.in-Some.above (tree_at c.args.arena.now.cells c.args.levels c.args.root) = stop_of (tree_at c.args.arena.now.cells c.args.levels c.args.root) c.args.stop c.in-Some.above c.in-Some.is c.requires.stop in
    part_tree c.args.arena.now.cells c.args.levels c.args.root (cell_at c.args.arena.now.cells c.args.part.now.cell).key c.args.part.now.cell c.in-Some.above stop.left stop.key stop.balance stop.right c.requires.tree stop.there stop.uneven c.requires.above c.requires.free c.links-right.result c.links-right.ensures

pub hang-requires-2-clause-free : goal.hang-requires-2-clause-free
hang-requires-2-clause-free g c =
    let stop : IsStop c.in-Some.above (tree_at c.args.arena.now.cells c.args.levels c.args.root) = stop_of (tree_at c.args.arena.now.cells c.args.levels c.args.root) c.args.stop c.in-Some.above c.in-Some.is c.requires.stop in
    part_free c.args.arena.now.cells c.args.levels c.args.root (cell_at c.args.arena.now.cells c.args.part.now.cell).key c.args.part.now.cell c.in-Some.above stop.left stop.key stop.balance stop.right c.requires.tree stop.there stop.uneven c.requires.above c.requires.free c.links-right.result c.links-right.ensures

pub hang-requires-2-clause-above : goal.hang-requires-2-clause-above
hang-requires-2-clause-above g c =
    let stop : IsStop c.in-Some.above (tree_at c.args.arena.now.cells c.args.levels c.args.root) = stop_of (tree_at c.args.arena.now.cells c.args.levels c.args.root) c.args.stop c.in-Some.above c.in-Some.is c.requires.stop in
    part_above c.args.arena.now.cells c.args.levels c.args.root (cell_at c.args.arena.now.cells c.args.part.now.cell).key c.args.part.now.cell c.in-Some.above stop.left stop.key stop.balance stop.right c.requires.tree stop.there stop.uneven c.requires.above c.requires.free c.links-right.result c.links-right.ensures

pub join_right-requires-clause-at : goal.join_right-requires-clause-at
join_right-requires-clause-at g c =
    let stop : IsStop c.in-Some.above (tree_at c.args.arena.now.cells c.args.levels c.args.root) = stop_of (tree_at c.args.arena.now.cells c.args.levels c.args.root) c.args.stop c.in-Some.above c.in-Some.is c.requires.stop in
    (part_ready c.args.arena.now.cells c.args.levels c.args.root (cell_at c.args.arena.now.cells c.args.part.now.cell).key c.args.part.now.cell c.in-Some.above stop.left stop.key stop.balance stop.right c.requires.tree stop.there stop.uneven c.requires.above c.requires.free c.links-right.result c.links-right.ensures c.hang-2.new.arena.cells c.hang-2.new.part c.hang-2.ensures.added).1

pub join_right-requires-clause-root : goal.join_right-requires-clause-root
join_right-requires-clause-root g c =
    let stop : IsStop c.in-Some.above (tree_at c.args.arena.now.cells c.args.levels c.args.root) = stop_of (tree_at c.args.arena.now.cells c.args.levels c.args.root) c.args.stop c.in-Some.above c.in-Some.is c.requires.stop in
    (part_ready c.args.arena.now.cells c.args.levels c.args.root (cell_at c.args.arena.now.cells c.args.part.now.cell).key c.args.part.now.cell c.in-Some.above stop.left stop.key stop.balance stop.right c.requires.tree stop.there stop.uneven c.requires.above c.requires.free c.links-right.result c.links-right.ensures c.hang-2.new.arena.cells c.hang-2.new.part c.hang-2.ensures.added).0.here

pub join_right-requires-clause-inner : goal.join_right-requires-clause-inner
join_right-requires-clause-inner g c =
    let stop : IsStop c.in-Some.above (tree_at c.args.arena.now.cells c.args.levels c.args.root) = stop_of (tree_at c.args.arena.now.cells c.args.levels c.args.root) c.args.stop c.in-Some.above c.in-Some.is c.requires.stop in
    (part_ready c.args.arena.now.cells c.args.levels c.args.root (cell_at c.args.arena.now.cells c.args.part.now.cell).key c.args.part.now.cell c.in-Some.above stop.left stop.key stop.balance stop.right c.requires.tree stop.there stop.uneven c.requires.above c.requires.free c.links-right.result c.links-right.ensures c.hang-2.new.arena.cells c.hang-2.new.part c.hang-2.ensures.added).0.left

pub returns-clause-added : goal.returns-clause-added
returns-clause-added g c =
    let stop : IsStop c.in-Some.above (tree_at c.args.arena.now.cells c.args.levels c.args.root) = stop_of (tree_at c.args.arena.now.cells c.args.levels c.args.root) c.args.stop c.in-Some.above c.in-Some.is c.requires.stop in
    subst (λ (x : GrownPart). IsAdded c.args.arena.now.cells c.join_right.new.arena.cells (tree_at c.args.arena.now.cells c.args.levels c.args.root) (cell_at c.args.arena.now.cells c.args.part.now.cell).key x) {x = with_root c.args.root c.join_right.new.part} {y = c.begin_with.new.part} (sym c.begin_with.ensures)
    (part_added c.args.arena.now.cells c.args.levels c.args.root (cell_at c.args.arena.now.cells c.args.part.now.cell).key c.args.part.now.cell c.in-Some.above stop.left stop.key stop.balance stop.right c.requires.tree stop.there stop.uneven c.requires.above c.requires.free c.links-right.result c.links-right.ensures c.hang-2.new.arena.cells c.hang-2.new.part c.hang-2.ensures.added c.join_right.new.arena.cells c.join_right.new.part c.hang-2.ensures.cell c.join_right.ensures.part (ap (λ (a : Content). a.cells) c.join_right.ensures.arena))

pub returns-clause-steps : goal.returns-clause-steps
returns-clause-steps g c =
    let stop : IsStop c.in-Some.above (tree_at c.args.arena.now.cells c.args.levels c.args.root) = stop_of (tree_at c.args.arena.now.cells c.args.levels c.args.root) c.args.stop c.in-Some.above c.in-Some.is c.requires.stop in
    subst (λ (x : GrownPart). IsHangCost (tree_at c.args.arena.now.cells c.args.levels c.args.root) x c.args.steps.now c.join_right.new.steps) {x = with_root c.args.root c.join_right.new.part} {y = c.begin_with.new.part} (sym c.begin_with.ensures)
    (part_cost c.args.arena.now.cells c.args.levels c.args.root (cell_at c.args.arena.now.cells c.args.part.now.cell).key c.args.part.now.cell c.in-Some.above stop.left stop.key stop.balance stop.right c.requires.tree stop.there stop.uneven c.requires.above c.requires.free c.links-right.result c.links-right.ensures c.hang-2.new.arena.cells c.hang-2.new.part c.hang-2.ensures.added c.join_right.new.arena.cells c.join_right.new.part c.hang-2.ensures.cell c.join_right.ensures.part c.args.steps.now c.hang-2.new.steps c.join_right.new.steps c.hang-2.ensures.steps c.join_right.ensures.steps)
