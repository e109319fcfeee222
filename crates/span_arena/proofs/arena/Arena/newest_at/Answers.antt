use Rattle.std.proofs.Common.{◌≡◌, ap, Some, sym, ◌∙◌, arith, ◌<◌, length, subst}
use Rattle.span_arena.specs.Content.{newest_upto}
use Rattle.span_arena.specs.Runs.{node_at}
use Rattle.span_arena.proofs.Chains.{used_of, read_used}
use Rattle.span_arena.specs.Order.{AreInTimeOrder}
use Rattle.span_arena.proofs.Falling.{found_last}
use Rattle.span_arena.proofs.Walking.{init_run, next_run, next_same, found_here, here_in_range}
use Rattle.span_arena.proofs.arena.Arena.newest_at.Goals as goal

pub loop-left-init : goal.loop-left-init
loop-left-init c =
    let i = c.self.inside in
    let h = rw (← c.self.view_is) at c.requires in
    let u = used_of (node_at i.nodes.items) i.chains.items c.args.chain.number h.0 h.1 in
    let used = read_used i.chains.items c.args.chain.number c.index.result.now c.in-Used.links u.0 u.1 c.index.ensures c.in-Used.is in
    let r = init_run i.nodes.items i.chains.items i.free i.free_count i.most i.cells c.self.invariant.sound c.args.chain.number c.in-Used.links used in
    record { run = r.0; same = rw (← c.self.view_is) (ap (newest_upto c.args.s) r.1) }

pub index-node-requires : goal.index-node-requires
index-node-requires c = let lt : c.loop-left.at < length c.self.inside.nodes.items = here_in_range _ _ _ c.loop-left.invariant.run c.loop-left-test.true in omega (arith, c.self.inside.nodes.ok)

pub returns-then-node-s-clause-first : goal.returns-then-node-s-clause-first
returns-then-node-s-clause-first c = ap Some c.version.ensures ∙ sym (sym c.loop-left.invariant.same ∙ found_here _ _ _ c.loop-left.invariant.run c.loop-left-test.true _ c.index-node.ensures c.args.s c.if-node-s.true)

pub returns-then-node-s-clause-last : goal.returns-then-node-s-clause-last
returns-then-node-s-clause-last c =
    let falling = subst AreInTimeOrder c.self.view_is c.self.invariant.falling in
    rw c.version.ensures (found_last c.args.s _ _ (sym (sym c.loop-left.invariant.same ∙ found_here _ _ _ c.loop-left.invariant.run c.loop-left-test.true _ c.index-node.ensures c.args.s c.if-node-s.true)) (falling c.args.chain.number))

pub loop-left-preserved : goal.loop-left-preserved
loop-left-preserved c = record {
  run = next_run _ _ _ c.loop-left.invariant.run c.loop-left-test.true _ c.index-node.ensures;
  same = next_same _ _ _ c.loop-left.invariant.run c.loop-left-test.true _ c.index-node.ensures c.args.s c.if-node-s.false ∙ c.loop-left.invariant.same;
}

pub returns-clause-first : goal.returns-clause-first
returns-clause-first c =
    let e : c.loop-left.left ≡ 0 = omega (arith, c.loop-left-test.false) in
    rw e at c.loop-left.invariant.same

pub returns-clause-last : goal.returns-clause-last
returns-clause-last c =
    let e : c.loop-left.left ≡ 0 = omega (arith, c.loop-left-test.false) in
    let falling = subst AreInTimeOrder c.self.view_is c.self.invariant.falling in
    found_last c.args.s _ _ (rw e at c.loop-left.invariant.same) (falling c.args.chain.number)
