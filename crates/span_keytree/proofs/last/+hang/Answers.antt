use Rattle.std.proofs.Common.{ap, arith, rules}
use Rattle.span_arena.specs.Cells.{cell_at}
use Rattle.span_arena.specs.Content.{Content}
use Rattle.span_keytree.proofs.Exits.{range_some, right_some}
use Rattle.span_keytree.proofs.Hanging.{above_more, free_more, hung_ready, hung_more}
use Rattle.span_keytree.proofs.Spent.{some_levels}
use Rattle.span_keytree.proofs.last.+hang.Goals as goal

pub links-right-requires : goal.links-right-requires
links-right-requires g t c = range_some c.args.arena.now.cells c.args.levels c.args.at c.in-Some.at c.in-Some.is c.requires.tree

pub hang-requires : goal.hang-requires
hang-requires g t c κs within =
    let key = (cell_at c.args.arena.now.cells c.args.part.now.cell).key in
    let some = some_levels c.args.arena.now.cells c.args.levels c.args.at c.in-Some.at c.in-Some.is c.requires.tree in
    let tree = right_some c.args.arena.now.cells c.args.levels c.args.at c.in-Some.at c.links-right.result c.in-Some.is c.links-right.ensures c.requires.tree in
    let free = free_more c.args.arena.now.cells c.args.levels c.args.at c.in-Some.at c.links-right.result key c.in-Some.is c.links-right.ensures c.requires.tree c.args.part.now.cell c.requires.free in
    let above = above_more c.args.arena.now.cells c.args.levels c.args.at c.in-Some.at c.links-right.result key c.in-Some.is c.links-right.ensures c.requires.tree c.requires.above in
    (omega (arith, c.decreases), (search rules, (search rules, (tree, (c.requires.part, (free, above))))))

pub join_right-requires-clause-at : goal.join_right-requires-clause-at
join_right-requires-clause-at g t c = (hung_ready c.args.arena.now.cells c.args.levels c.args.at c.in-Some.at c.links-right.result (cell_at c.args.arena.now.cells c.args.part.now.cell).key c.in-Some.is c.links-right.ensures c.requires.tree c.hang.new.arena.cells c.hang.new.part c.hang.ensures.added).1

pub join_right-requires-clause-root : goal.join_right-requires-clause-root
join_right-requires-clause-root g t c = (hung_ready c.args.arena.now.cells c.args.levels c.args.at c.in-Some.at c.links-right.result (cell_at c.args.arena.now.cells c.args.part.now.cell).key c.in-Some.is c.links-right.ensures c.requires.tree c.hang.new.arena.cells c.hang.new.part c.hang.ensures.added).0.here

pub join_right-requires-clause-inner : goal.join_right-requires-clause-inner
join_right-requires-clause-inner g t c = (hung_ready c.args.arena.now.cells c.args.levels c.args.at c.in-Some.at c.links-right.result (cell_at c.args.arena.now.cells c.args.part.now.cell).key c.in-Some.is c.links-right.ensures c.requires.tree c.hang.new.arena.cells c.hang.new.part c.hang.ensures.added).0.left

pub returns-clause-added : goal.returns-clause-added
returns-clause-added g t c =
    hung_more c.args.arena.now.cells c.args.levels c.args.at c.in-Some.at c.links-right.result (cell_at c.args.arena.now.cells c.args.part.now.cell).key c.in-Some.is c.links-right.ensures c.requires.tree c.hang.new.arena.cells c.hang.new.part c.hang.ensures.added
    c.join_right.new.arena.cells c.join_right.new.part c.args.part.now.cell c.hang.ensures.cell c.requires.free c.requires.above (ap (λ (a : Content). a.cells) c.join_right.ensures.arena) c.join_right.ensures.part
