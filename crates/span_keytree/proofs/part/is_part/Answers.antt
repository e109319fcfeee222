use Rattle.std.proofs.Common.{◌∙◌, ap, sym}
use Rattle.std.specs.Prelude.{◌&&◌}
use Rattle.std.specs.declared.cmp.Ordering.TheVariants.{Less, Greater}
use Rattle.span_keytree.specs.declared.part.Way.{Way}
use Rattle.span_keytree.proofs.Exits.{range_some, left_some, right_some}
use Rattle.span_keytree.proofs.Into.{part_below_is}
use Rattle.span_keytree.proofs.Spent.{left_search, right_search}
use Rattle.span_keytree.proofs.part.is_part.Goals as goal

pub compare-requires : goal.compare-requires
compare-requires g c = range_some c.args.arena.now.cells c.args.levels c.args.at c.in-Some.at c.in-Some.is c.requires

pub links-left-requires : goal.links-left-requires
links-left-requires g c = range_some c.args.arena.now.cells c.args.levels c.args.at c.in-Some.at c.in-Some.is c.requires

pub links-right-requires : goal.links-right-requires
links-right-requires g c = range_some c.args.arena.now.cells c.args.levels c.args.at c.in-Some.at c.in-Some.is c.requires

pub way_below-way-requires : goal.way_below-way-requires
way_below-way-requires g c = left_some c.args.arena.now.cells c.args.levels c.args.at c.in-Some.at c.links-left.result c.in-Some.is c.links-left.ensures c.requires

pub way_below-way-requires-in-Greater : goal.way_below-way-requires-in-Greater
way_below-way-requires-in-Greater g c = right_some c.args.arena.now.cells c.args.levels c.args.at c.in-Some.at c.links-right.result c.in-Some.is c.links-right.ensures c.requires

pub returns-in-Less-clause-part : goal.returns-in-Less-clause-part
returns-in-Less-clause-part g c =
    c.is_enough_left.ensures
    ∙ ap (λ (w : Way). w.is_right && w.is_uneven) c.way_below-way.ensures.way
    ∙ sym (part_below_is c.args.arena.now.cells c.args.levels c.args.at c.in-Some.at c.links-left.result c.args.key.now c.in-Some.is c.links-left.ensures c.requires Less c.in-Less.ensures.order)

pub returns-in-Less-clause-steps : goal.returns-in-Less-clause-steps
returns-in-Less-clause-steps g c = left_search c.args.arena.now.cells c.args.levels c.args.at c.in-Some.at c.links-left.result c.args.steps.now c.compare.new.steps c.way_below-way.new.steps c.in-Some.is c.links-left.ensures c.requires c.in-Less.ensures.steps c.way_below-way.ensures.steps

pub returns-in-Greater-clause-part : goal.returns-in-Greater-clause-part
returns-in-Greater-clause-part g c =
    c.is_enough_right.ensures
    ∙ ap (λ (w : Way). w.is_left && w.is_uneven) c.way_below-way-in-Greater.ensures.way
    ∙ sym (part_below_is c.args.arena.now.cells c.args.levels c.args.at c.in-Some.at c.links-right.result c.args.key.now c.in-Some.is c.links-right.ensures c.requires Greater c.in-Greater.ensures.order)

pub returns-in-Greater-clause-steps : goal.returns-in-Greater-clause-steps
returns-in-Greater-clause-steps g c = right_search c.args.arena.now.cells c.args.levels c.args.at c.in-Some.at c.links-right.result c.args.steps.now c.compare.new.steps c.way_below-way-in-Greater.new.steps c.in-Some.is c.links-right.ensures c.requires c.in-Greater.ensures.steps c.way_below-way-in-Greater.ensures.steps
