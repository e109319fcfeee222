use Rattle.std.proofs.Common.{arith}
use Rattle.std.proofs.lemmas.Bool.Decides.{nat_tests}
use Rattle.span_arena.specs.Runs.{node_at}
use Rattle.span_arena.proofs.Chains.{used_of, read_used}
use Rattle.span_arena.proofs.Contents.{unused_is}
use Rattle.span_arena.proofs.arena.Arena.is_unused.Goals as goal

pub returns-else-links-eq0 : goal.returns-else-links-eq0
returns-else-links-eq0 c =
    let i = c.self.inside in
    let h = rw (← c.self.view_is) at c.requires in
    let u = used_of (node_at i.nodes.items) i.chains.items c.args.chain.number h.0 h.1 in
    let used = read_used i.chains.items c.args.chain.number c.index.result.now c.in-Used.links u.0 u.1 c.index.ensures c.in-Used.is in
    rw (← c.self.view_is, unused_is i.nodes.items i.chains.items i.free i.free_count i.most i.cells c.self.invariant.sound c.args.chain.number c.in-Used.links used) (grind (arith, nat_tests))
