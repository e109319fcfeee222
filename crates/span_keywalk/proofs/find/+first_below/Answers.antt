use Rattle.std.proofs.Common.{arith, rules, ◌∙◌, sym}
use Rattle.std.specs.declared.cmp.Ordering.TheVariants.{Less, Greater}
use Rattle.span_keytree.proofs.Exits.{range_some, left_some, right_some, first_by}
use Rattle.span_keytree.proofs.Spent.{some_levels, left_search, right_search}
use Rattle.span_keywalk.proofs.find.+first_below.Goals as goal

pub compare-requires : goal.compare-requires
compare-requires g t c = range_some c.args.arena.now.cells c.args.levels c.args.at c.in-Some.at c.in-Some.is c.requires

pub links-left-requires : goal.links-left-requires
links-left-requires g t c = range_some c.args.arena.now.cells c.args.levels c.args.at c.in-Some.at c.in-Some.is c.requires

pub links-right-requires : goal.links-right-requires
links-right-requires g t c = range_some c.args.arena.now.cells c.args.levels c.args.at c.in-Some.at c.in-Some.is c.requires

pub first_below-requires : goal.first_below-requires
first_below-requires g t c κs within = (let some = some_levels c.args.arena.now.cells c.args.levels c.args.at c.in-Some.at c.in-Some.is c.requires in omega (arith, c.decreases), (search rules, (search rules, left_some c.args.arena.now.cells c.args.levels c.args.at c.in-Some.at c.links-left.result c.in-Some.is c.links-left.ensures c.requires)))

pub first_below-requires-in-Greater : goal.first_below-requires-in-Greater
first_below-requires-in-Greater g t c κs within = (let some = some_levels c.args.arena.now.cells c.args.levels c.args.at c.in-Some.at c.in-Some.is c.requires in omega (arith, c.decreases), (search rules, (search rules, right_some c.args.arena.now.cells c.args.levels c.args.at c.in-Some.at c.links-right.result c.in-Some.is c.links-right.ensures c.requires)))

pub returns-in-Less-clause-first : goal.returns-in-Less-clause-first
returns-in-Less-clause-first g t c = c.first_below.ensures.first ∙ sym (first_by c.args.arena.now.cells c.args.levels c.args.at c.in-Some.at c.links-left.result c.args.key.now c.in-Some.is c.links-left.ensures c.requires c.args.after Less c.in-Less.ensures.order)

pub returns-in-Less-clause-steps : goal.returns-in-Less-clause-steps
returns-in-Less-clause-steps g t c = left_search c.args.arena.now.cells c.args.levels c.args.at c.in-Some.at c.links-left.result c.args.steps.now c.compare.new.steps c.first_below.new.steps c.in-Some.is c.links-left.ensures c.requires c.in-Less.ensures.steps c.first_below.ensures.steps

pub returns-in-Greater-clause-first : goal.returns-in-Greater-clause-first
returns-in-Greater-clause-first g t c = c.first_below-in-Greater.ensures.first ∙ sym (first_by c.args.arena.now.cells c.args.levels c.args.at c.in-Some.at c.links-right.result c.args.key.now c.in-Some.is c.links-right.ensures c.requires c.args.after Greater c.in-Greater.ensures.order)

pub returns-in-Greater-clause-steps : goal.returns-in-Greater-clause-steps
returns-in-Greater-clause-steps g t c = right_search c.args.arena.now.cells c.args.levels c.args.at c.in-Some.at c.links-right.result c.args.steps.now c.compare.new.steps c.first_below-in-Greater.new.steps c.in-Some.is c.links-right.ensures c.requires c.in-Greater.ensures.steps c.first_below-in-Greater.ensures.steps
