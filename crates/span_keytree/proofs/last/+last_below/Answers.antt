use Rattle.std.proofs.Common.{arith, sym, ◌∙◌}
use Rattle.span_keytree.proofs.Exits.{range_some, right_some}
use Rattle.span_keytree.proofs.Hanging.{last_by}
use Rattle.span_keytree.proofs.Spent.{some_levels}
use Rattle.span_keytree.proofs.last.+last_below.Goals as goal

pub links-right-requires : goal.links-right-requires
links-right-requires t c = range_some c.args.arena.now.cells c.args.levels c.args.at c.in-Some.at c.in-Some.is c.requires

pub last_below-requires : goal.last_below-requires
last_below-requires t c = (let some = some_levels c.args.arena.now.cells c.args.levels c.args.at c.in-Some.at c.in-Some.is c.requires in omega (arith, c.decreases), right_some c.args.arena.now.cells c.args.levels c.args.at c.in-Some.at c.links-right.result c.in-Some.is c.links-right.ensures c.requires)

pub returns : goal.returns
returns t c = c.last_below.ensures ∙ sym (last_by c.args.arena.now.cells c.args.levels c.args.at c.in-Some.at c.links-right.result c.in-Some.is c.links-right.ensures c.requires c.args.before)
