use Rattle.std.proofs.Common.{◌≡◌, ◌<◌, arith, length, refl, sym, subst}
use Rattle.span_arena.specs.Order.{AreInTimeOrder}
use Rattle.span_arena.proofs.Filling.{free_node_sound, free_node_content}
use Rattle.span_arena.proofs.arena.Arena.add_free_node.Goals as goal

pub invariant_of-self-2 : goal.invariant_of-self-2
invariant_of-self-2 c =
    let i = c.self.inside in
    let at : c.len-number.result ≡ length i.nodes.items = omega (arith, c.len-number.ensures, i.nodes.ok) in
    let below : length i.nodes.items < i.most = omega (arith, c.if-self-number.false, at) in
    record {
      sound = rw (c.in-Ok.ensures.items, at) (free_node_sound i.nodes.items i.chains.items i.free i.free_count i.most c.self.invariant.sound _ refl refl below);
      spare = c.self.invariant.spare;
      cells = c.self.invariant.cells;
      few = c.self.invariant.few;
      falling = rw c.in-Ok.ensures.items (subst AreInTimeOrder (sym (free_node_content i.nodes.items i.chains.items i.free i.free_count i.most c.self.invariant.sound _ refl i.cells)) c.self.invariant.falling);
    }

pub returns-clause-ok : goal.returns-clause-ok
returns-clause-ok c =
    let i = c.self.inside in
    rw (← c.self.view_is, c.in-Ok.ensures.items) (free_node_content i.nodes.items i.chains.items i.free i.free_count i.most c.self.invariant.sound _ refl i.cells)
