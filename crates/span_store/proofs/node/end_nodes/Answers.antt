use Rattle.std.proofs.Common.{◌<◌, length, arith, sym, subst}
use Rattle.span_store.specs.Stored.{AreLaterEnds}
use Rattle.span_store.proofs.Ending.{ends_start, ends_all, endable_here, ends_own, later_own, ends_other, other_next}
use Rattle.span_store.proofs.node.end_nodes.Goals as goal
use Rattle.span_store.proofs.node.end_nodes.Goals.{then-node-txn, else-node-txn}

pub loop-place-init : goal.loop-place-init
loop-place-init c = record { ended = ends_start c.args.txn c.args.committed c.args.arena.now c.args.prepared.now.items c.requires.owned; later = c.requires.later }

pub end_node-requires : goal.end_node-requires
end_node-requires c =
    let ps = c.args.prepared.now in
    let lt : c.loop-place.place < length ps.items = omega (arith, c.loop-place-test.true, c.len-place-end.ensures, ps.ok) in
    endable_here ps.items c.loop-place.place c.index-node.result.now lt c.index-node.ensures c.args.txn c.args.committed c.args.arena.now c.loop-place.arena c.loop-place.invariant.ended c.if-node-txn.true c.loop-place.invariant.later

pub loop-place-preserved : goal.loop-place-preserved
loop-place-preserved c =
    let ps = c.args.prepared.now in
    let lt : c.loop-place.place < length ps.items = omega (arith, c.loop-place-test.true, c.len-place-end.ensures, ps.ok) in
    elim c.if-node-txn.branch [
      | then-node-txn w ↦ rw w.arena-is (record {
        ended = ends_own ps.items c.loop-place.place c.index-node.result.now lt c.index-node.ensures c.args.txn c.args.committed c.args.arena.now c.loop-place.arena c.loop-place.invariant.ended w.if-node-txn.true w.end_node.new.arena w.end_node.ensures;
        later = later_own ps.items c.loop-place.place c.index-node.result.now lt c.index-node.ensures c.args.txn c.args.committed c.args.arena.now c.loop-place.arena c.loop-place.invariant.ended w.if-node-txn.true w.end_node.new.arena w.end_node.ensures c.loop-place.invariant.later;
      })
      | else-node-txn w ↦ rw w.arena-is (record {
        ended = ends_other ps.items c.loop-place.place c.index-node.result.now lt c.index-node.ensures c.args.txn c.args.committed c.args.arena.now c.loop-place.arena c.loop-place.invariant.ended w.if-node-txn.false;
        later = subst (AreLaterEnds c.args.txn c.args.committed c.loop-place.arena) (sym (other_next ps.items c.loop-place.place c.index-node.result.now lt c.index-node.ensures c.args.txn w.if-node-txn.false)) c.loop-place.invariant.later;
      })
    ]

pub returns : goal.returns
returns c =
    let ps = c.args.prepared.now in
    ends_all c.args.txn c.args.committed c.args.arena.now c.loop-place.arena ps.items c.loop-place.place (omega (arith, c.loop-place-test.false, c.len-place-end.ensures, ps.ok)) c.loop-place.invariant.ended
