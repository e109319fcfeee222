use Rattle.span_store.proofs.Moving.{none_reserved, one_reserved}
use Rattle.span_store.proofs.split.add_nodes.Goals as goal

pub loop-node-init : goal.loop-node-init
loop-node-init c = none_reserved c.args.room.now

pub loop-node-preserved : goal.loop-node-preserved
loop-node-preserved c = one_reserved c.loop-node._node c.args.room.now c.loop-node.room c.add_free_node.new.self c.loop-node.invariant c.in-Ok.ensures.ok
