use Rattle.std.proofs.Common.{arith, rules, ◌∙◌, ap, sym}
use Rattle.std.specs.declared.cmp.Ordering.TheVariants.{Less, Greater}
use Rattle.span_keytree.specs.declared.part.Way.{Way}
use Rattle.span_keytree.specs.Ways.{way_left, way_right}
use Rattle.span_keytree.proofs.Exits.{range_some, left_some, right_some}
use Rattle.span_keytree.proofs.Into.{way_below_is}
use Rattle.span_keytree.proofs.Spent.{some_levels, left_search, right_search}
use Rattle.span_keytree.proofs.part.+way_below.Goals as goal

pub compare-requires : goal.compare-requires
compare-requires g t c = range_some c.args.arena.now.cells c.args.levels c.args.at c.in-Some.at c.in-Some.is c.requires

pub links-links-requires : goal.links-links-requires
links-links-requires g t c = range_some c.args.arena.now.cells c.args.levels c.args.at c.in-Some.at c.in-Some.is c.requires

pub links-links-requires-in-Greater : goal.links-links-requires-in-Greater
links-links-requires-in-Greater g t c = range_some c.args.arena.now.cells c.args.levels c.args.at c.in-Some.at c.in-Some.is c.requires

pub way_below-way-requires : goal.way_below-way-requires
way_below-way-requires g t c κs within = (let some = some_levels c.args.arena.now.cells c.args.levels c.args.at c.in-Some.at c.in-Some.is c.requires in omega (arith, c.decreases), (search rules, (search rules, left_some c.args.arena.now.cells c.args.levels c.args.at c.in-Some.at c.links-links.result c.in-Some.is c.links-links.ensures c.requires)))

pub way_below-way-requires-in-Greater : goal.way_below-way-requires-in-Greater
way_below-way-requires-in-Greater g t c κs within = (let some = some_levels c.args.arena.now.cells c.args.levels c.args.at c.in-Some.at c.in-Some.is c.requires in omega (arith, c.decreases), (search rules, (search rules, right_some c.args.arena.now.cells c.args.levels c.args.at c.in-Some.at c.links-links-in-Greater.result c.in-Some.is c.links-links-in-Greater.ensures c.requires)))

pub returns-in-Less-clause-way : goal.returns-in-Less-clause-way
returns-in-Less-clause-way g t c =
    c.after_left.ensures
    ∙ ap (λ (w : Way). way_left c.links-links.result.balance w) c.way_below-way.ensures.way
    ∙ sym (way_below_is c.args.arena.now.cells c.args.levels c.args.at c.in-Some.at c.links-links.result c.args.key.now c.in-Some.is c.links-links.ensures c.requires Less c.in-Less.ensures.order)

pub returns-in-Less-clause-steps : goal.returns-in-Less-clause-steps
returns-in-Less-clause-steps g t c = left_search c.args.arena.now.cells c.args.levels c.args.at c.in-Some.at c.links-links.result c.args.steps.now c.compare.new.steps c.way_below-way.new.steps c.in-Some.is c.links-links.ensures c.requires c.in-Less.ensures.steps c.way_below-way.ensures.steps

pub returns-in-Greater-clause-way : goal.returns-in-Greater-clause-way
returns-in-Greater-clause-way g t c =
    c.after_right.ensures
    ∙ ap (λ (w : Way). way_right c.links-links-in-Greater.result.balance w) c.way_below-way-in-Greater.ensures.way
    ∙ sym (way_below_is c.args.arena.now.cells c.args.levels c.args.at c.in-Some.at c.links-links-in-Greater.result c.args.key.now c.in-Some.is c.links-links-in-Greater.ensures c.requires Greater c.in-Greater.ensures.order)

pub returns-in-Greater-clause-steps : goal.returns-in-Greater-clause-steps
returns-in-Greater-clause-steps g t c = right_search c.args.arena.now.cells c.args.levels c.args.at c.in-Some.at c.links-links-in-Greater.result c.args.steps.now c.compare.new.steps c.way_below-way-in-Greater.new.steps c.in-Some.is c.links-links-in-Greater.ensures c.requires c.in-Greater.ensures.steps c.way_below-way-in-Greater.ensures.steps
