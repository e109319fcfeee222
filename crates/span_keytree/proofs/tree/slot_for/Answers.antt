use Rattle.std.proofs.Common.{arith}
use Rattle.span_keytree.specs.Roots.{tree_of}
use Rattle.span_keytree.specs.Trees.{height}
use Rattle.span_keytree.proofs.Hanging.{last_inside}
use Rattle.span_keytree.proofs.Held.{tree_chains}
use Rattle.span_keytree.proofs.Whole.{slot_cost}
use Rattle.span_keytree.proofs.tree.slot_for.Goals as goal

pub is_after-requires : goal.is_after-requires
is_after-requires g c = last_inside c.args.arena.now.cells c.args.nexts.now c.args.index.now c.requires.own

pub put_among-requires-clause-chains : goal.put_among-requires-clause-chains
put_among-requires-clause-chains g c = tree_chains c.args.arena.now c.args.index.now c.requires.chains

pub returns-then-is_after-clause-cost : goal.returns-then-is_after-clause-cost
returns-then-is_after-clause-cost g c = slot_cost c.args.arena.now.cells c.args.nexts.now c.args.index.now 0 c.args.steps.now c.is_after.new.steps c.put_last.new.steps c.requires.own (omega arith) c.is_after.ensures.steps c.put_last.ensures.cost

pub returns-else-is_after-clause-cost : goal.returns-else-is_after-clause-cost
returns-else-is_after-clause-cost g c = slot_cost c.args.arena.now.cells c.args.nexts.now c.args.index.now (height (tree_of c.args.arena.now.cells c.args.index.now)) c.args.steps.now c.is_after.new.steps c.put_among.new.steps c.requires.own (omega arith) c.is_after.ensures.steps c.put_among.ensures.cost
