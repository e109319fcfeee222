use Rattle.span_store.specs.Stored.{AreLaterEnds, HasEnded, remaining_nodes}
use Rattle.span_store.proofs.node.end_nodes.Given as goal

-- the nodes so far are ended, where they are of the transaction
abbrev pub invariant-loop-place : goal.invariant-loop-place
invariant-loop-place l = record {
  ended : HasEnded l.txn l.committed l.fn.arena l.arena l.prepared.items (remaining_nodes l.txn l.place l.prepared.items);
  later : AreLaterEnds l.txn l.committed l.arena (remaining_nodes l.txn l.place l.prepared.items);
}
