use Rattle.std.proofs.Common.{arith}
use Rattle.span_keytree.proofs.Hanging.{last_inside}
use Rattle.span_keytree.proofs.Into.{near_cost, slot_near_cost}
use Rattle.span_keytree.proofs.Held.{tree_chains}
use Rattle.span_keytree.proofs.Whole.{slot_cost}
use Rattle.span_keytree.proofs.tree.slot_near.Goals as goal

pub is_after-requires : goal.is_after-requires
is_after-requires g c = last_inside c.args.arena.now.cells c.args.nexts.now c.args.index.now c.requires.own

pub put_into-requires-clause-chains : goal.put_into-requires-clause-chains
put_into-requires-clause-chains g c = tree_chains c.args.arena.now c.args.index.now c.requires.chains

pub put_among-requires-clause-chains : goal.put_among-requires-clause-chains
put_among-requires-clause-chains g c = tree_chains c.args.arena.now c.args.index.now c.requires.chains

pub returns-then-is_after-clause-cost : goal.returns-then-is_after-clause-cost
returns-then-is_after-clause-cost g c = λ d few. slot_near_cost d c.args.steps.now c.put_last.new.steps (slot_cost c.args.arena.now.cells c.args.nexts.now c.args.index.now 0 c.args.steps.now c.is_after.new.steps c.put_last.new.steps c.requires.own (omega arith) c.is_after.ensures.steps c.put_last.ensures.cost d few)

pub returns-in-Some-clause-cost : goal.returns-in-Some-clause-cost
returns-in-Some-clause-cost g c = λ d few. near_cost c.args.arena.now.cells c.args.nexts.now c.args.index.now c.args.steps.now c.is_after.new.steps c.part_for.new.steps c.put_into.new.steps c.requires.own c.is_after.ensures.steps d few c.part_for.ensures.steps c.put_into.ensures.cost

pub returns-in-None-clause-cost : goal.returns-in-None-clause-cost
returns-in-None-clause-cost g c = λ d few. near_cost c.args.arena.now.cells c.args.nexts.now c.args.index.now c.args.steps.now c.is_after.new.steps c.part_for.new.steps c.put_among.new.steps c.requires.own c.is_after.ensures.steps d few c.part_for.ensures.steps c.put_among.ensures.cost
