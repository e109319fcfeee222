use Rattle.std.proofs.Common.{sym, ◌∙◌, ap, length}
use Rattle.span_arena.specs.Runs.{node_at}
use Rattle.span_arena.proofs.Chains.{used_of, read_used}
use Rattle.span_arena.proofs.Counts.{length-walk}
use Rattle.span_arena.proofs.Taking.{versions_here}
use Rattle.span_arena.proofs.arena.Arena.count.Goals as goal

pub returns : goal.returns
returns c =
    let i = c.self.inside in
    let h = rw (← c.self.view_is) at c.requires in
    let u = used_of (node_at i.nodes.items) i.chains.items c.args.chain.number h.0 h.1 in
    let used = read_used i.chains.items c.args.chain.number c.index.result.now c.in-Used.links u.0 u.1 c.index.ensures c.in-Used.is in
    rw (← c.self.view_is) (sym (ap length (versions_here i.nodes.items i.chains.items i.free i.free_count i.most i.cells c.self.invariant.sound c.args.chain.number c.in-Used.links used) ∙ length-walk (node_at i.nodes.items) c.in-Used.links.count c.in-Used.links.newest))
