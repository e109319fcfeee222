use Rattle.std.proofs.Common.{arith}
use Rattle.span_keytree.proofs.Exits.{range_some, left_some, right_some}
use Rattle.span_keytree.proofs.Spent.{some_levels}
use Rattle.span_keywalk.proofs.find.+find_below.Goals as goal

pub order-requires : goal.order-requires
order-requires t c = range_some c.args.arena.now.cells c.args.levels c.args.at c.in-Some.at c.in-Some.is c.requires

pub links-left-requires : goal.links-left-requires
links-left-requires t c = range_some c.args.arena.now.cells c.args.levels c.args.at c.in-Some.at c.in-Some.is c.requires

pub links-right-requires : goal.links-right-requires
links-right-requires t c = range_some c.args.arena.now.cells c.args.levels c.args.at c.in-Some.at c.in-Some.is c.requires

pub find_below-requires : goal.find_below-requires
find_below-requires t c = (let some = some_levels c.args.arena.now.cells c.args.levels c.args.at c.in-Some.at c.in-Some.is c.requires in omega (arith, c.decreases), left_some c.args.arena.now.cells c.args.levels c.args.at c.in-Some.at c.links-left.result c.in-Some.is c.links-left.ensures c.requires)

pub find_below-requires-in-Greater : goal.find_below-requires-in-Greater
find_below-requires-in-Greater t c = (let some = some_levels c.args.arena.now.cells c.args.levels c.args.at c.in-Some.at c.in-Some.is c.requires in omega (arith, c.decreases), right_some c.args.arena.now.cells c.args.levels c.args.at c.in-Some.at c.links-right.result c.in-Some.is c.links-right.ensures c.requires)
