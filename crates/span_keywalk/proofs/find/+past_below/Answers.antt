use Rattle.std.proofs.Common.{arith, rules, ◌∙◌, sym, false}
use Rattle.span_keytree.proofs.Exits.{range_some, left_some, right_some, past_by}
use Rattle.span_keytree.proofs.Spent.{some_levels}
use Rattle.span_keywalk.proofs.find.+past_below.Goals as goal

pub is_past-requires : goal.is_past-requires
is_past-requires g t c = range_some c.args.arena.now.cells c.args.levels c.args.at c.in-Some.at c.in-Some.is c.requires

pub links-right-requires : goal.links-right-requires
links-right-requires g t c = range_some c.args.arena.now.cells c.args.levels c.args.at c.in-Some.at c.in-Some.is c.requires

pub past_below-requires : goal.past_below-requires
past_below-requires g t c κs within = (let some = some_levels c.args.arena.now.cells c.args.levels c.args.at c.in-Some.at c.in-Some.is c.requires in omega (arith, c.decreases), (search rules, (search rules, left_some c.args.arena.now.cells c.args.levels c.args.at c.in-Some.at c.links-left.result c.in-Some.is c.links-left.ensures c.requires)))

pub past_below-requires-else-is_past : goal.past_below-requires-else-is_past
past_below-requires-else-is_past g t c κs within = (let some = some_levels c.args.arena.now.cells c.args.levels c.args.at c.in-Some.at c.in-Some.is c.requires in omega (arith, c.decreases), (search rules, (search rules, right_some c.args.arena.now.cells c.args.levels c.args.at c.in-Some.at c.links-right.result c.in-Some.is c.links-right.ensures c.requires)))

pub returns-else-is_past-clause-first : goal.returns-else-is_past-clause-first
returns-else-is_past-clause-first g t c =
    c.past_below-else-is_past.ensures.first ∙ sym (past_by c.args.arena.now.cells c.args.levels c.args.at c.in-Some.at c.links-right.result c.args.front.now c.args.after false c.in-Some.is c.links-right.ensures c.requires (sym c.if-is_past.false ∙ c.is_past.ensures.past))
