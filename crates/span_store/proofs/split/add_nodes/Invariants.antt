use Rattle.span_store.specs.Stored.{AreReserved}
use Rattle.span_store.proofs.split.add_nodes.Given as goal

abbrev pub invariant-loop-node : goal.invariant-loop-node
invariant-loop-node l = AreReserved l._node l.fn.room l.room
