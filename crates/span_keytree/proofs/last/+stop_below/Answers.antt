use Rattle.std.proofs.Common.{arith, sym, ◌∙◌}
use Rattle.span_keytree.proofs.Exits.{range_some, right_some}
use Rattle.span_keytree.proofs.Spent.{some_levels}
use Rattle.span_keytree.proofs.Stopping.{stop_more}
use Rattle.span_keytree.proofs.last.+stop_below.Goals as goal

pub links-links-requires : goal.links-links-requires
links-links-requires t c = range_some c.args.arena.now.cells c.args.levels c.args.at c.in-Some.at c.in-Some.is c.requires

pub stop_below-requires : goal.stop_below-requires
stop_below-requires t c = (let some = some_levels c.args.arena.now.cells c.args.levels c.args.at c.in-Some.at c.in-Some.is c.requires in omega (arith, c.decreases), right_some c.args.arena.now.cells c.args.levels c.args.at c.in-Some.at c.links-links.result c.in-Some.is c.links-links.ensures c.requires)

pub returns : goal.returns
returns t c = c.stop_below.ensures ∙ sym (stop_more c.args.arena.now.cells c.args.levels c.args.at c.in-Some.at c.links-links.result c.in-Some.is c.links-links.ensures c.requires c.args.stop c.args.above c.stop_by-next.result c.stop_by-next.ensures)
