use Rattle.std.proofs.Common.{ap, sym, ◌∙◌, refl, arith, subst, map}
use Rattle.std.proofs.Common.{length-set}
use Rattle.span_arena.specs.Content.{given_back}
use Rattle.span_arena.specs.Runs.{prepared_of}
use Rattle.span_arena.specs.Order.{AreInTimeOrder}
use Rattle.span_arena.proofs.Chains.{used_in_range, read_not_free, links_were}
use Rattle.span_arena.proofs.Counts.{part_prepared}
use Rattle.span_arena.proofs.Moves.{sound-give_back}
use Rattle.span_arena.proofs.Contents.{held, links_held, content-give_back}
use Rattle.span_arena.proofs.Spares.{are_spare-used}
use Rattle.span_arena.proofs.arena.Arena.give_back.Goals as goal

pub index-requires : goal.index-requires
index-requires c =
    let i = c.self.inside in
    let r = held i.nodes.items i.chains.items i.free i.free_count i.most i.cells c.self.invariant.sound c.args.node.number c.index_mut-cell.result.now _ c.in-Reserved.chain c.in-Reserved.is c.index_mut-cell.ensures.value (rw (← c.self.view_is) at c.requires) in
    omega (arith, i.chains.ok, used_in_range i.chains.items c.in-Reserved.chain r.0.links r.0.used)

pub unreachable-requires-in_default-index : goal.unreachable-requires-in_default-index
unreachable-requires-in_default-index c =
    let i = c.self.inside in
    let r = held i.nodes.items i.chains.items i.free i.free_count i.most i.cells c.self.invariant.sound c.args.node.number c.index_mut-cell.result.now _ c.in-Reserved.chain c.in-Reserved.is c.index_mut-cell.ensures.value (rw (← c.self.view_is) at c.requires) in
    read_not_free i.chains.items c.in-Reserved.chain c.index.result.now r.0.links _ _ r.0.used c.index.ensures c.in_default-index.is

pub overflow_add-cell : goal.overflow_add-cell
overflow_add-cell c =
    let i = c.self.inside in
    let r = held i.nodes.items i.chains.items i.free i.free_count i.most i.cells c.self.invariant.sound c.args.node.number c.index_mut-cell.result.now _ c.in-Reserved.chain c.in-Reserved.is c.index_mut-cell.ensures.value (rw (← c.self.view_is) at c.requires) in
    let l = links_held i.nodes.items i.chains.items c.args.node.number c.index_mut-cell.result.now c.in-Reserved.chain r.0 c.index.result.now c.in-Used.links c.index.ensures c.in-Used.is in
    let p = rw (c.self.invariant.sound.prepared c.in-Reserved.chain, links_were i.chains.items c.in-Reserved.chain c.in-Used.links c.in-Used.links l.0) at (part_prepared c.in-Reserved.chain (map prepared_of i.nodes.items)) in
    omega (arith, p, l.1, c.self.invariant.sound.counted, c.self.invariant.sound.bounded)

pub overflow_add-self : goal.overflow_add-self
overflow_add-self c =
    let i = c.self.inside in
    let r = held i.nodes.items i.chains.items i.free i.free_count i.most i.cells c.self.invariant.sound c.args.node.number c.index_mut-cell.result.now _ c.in-Reserved.chain c.in-Reserved.is c.index_mut-cell.ensures.value (rw (← c.self.view_is) at c.requires) in
    let l = links_held i.nodes.items i.chains.items c.args.node.number c.index_mut-cell.result.now c.in-Reserved.chain r.0 c.index.result.now c.in-Used.links c.index.ensures c.in-Used.is in
    let p = rw (c.self.invariant.sound.prepared c.in-Reserved.chain, links_were i.chains.items c.in-Reserved.chain c.in-Used.links c.in-Used.links l.0) at (part_prepared c.in-Reserved.chain (map prepared_of i.nodes.items)) in
    omega (arith, p, l.1, c.self.invariant.sound.counted, c.self.invariant.sound.bounded)

pub overflow_sub-links : goal.overflow_sub-links
overflow_sub-links c =
    let i = c.self.inside in
    let r = held i.nodes.items i.chains.items i.free i.free_count i.most i.cells c.self.invariant.sound c.args.node.number c.index_mut-cell.result.now _ c.in-Reserved.chain c.in-Reserved.is c.index_mut-cell.ensures.value (rw (← c.self.view_is) at c.requires) in
    let l = links_held i.nodes.items i.chains.items c.args.node.number c.index_mut-cell.result.now c.in-Reserved.chain r.0 c.index.result.now c.in-Used.links c.index.ensures c.in-Used.is in
    omega (arith, l.1)

pub index_mut-requires : goal.index_mut-requires
index_mut-requires c =
    let i = c.self.inside in
    let r = held i.nodes.items i.chains.items i.free i.free_count i.most i.cells c.self.invariant.sound c.args.node.number c.index_mut-cell.result.now _ c.in-Reserved.chain c.in-Reserved.is c.index_mut-cell.ensures.value (rw (← c.self.view_is) at c.requires) in
    omega (arith, i.chains.ok, used_in_range i.chains.items c.in-Reserved.chain r.0.links r.0.used)

pub invariant_of-self : goal.invariant_of-self
invariant_of-self c =
    let i = c.self.inside in
    let r = held i.nodes.items i.chains.items i.free i.free_count i.most i.cells c.self.invariant.sound c.args.node.number c.index_mut-cell.result.now _ c.in-Reserved.chain c.in-Reserved.is c.index_mut-cell.ensures.value (rw (← c.self.view_is) at c.requires) in
    let l = links_held i.nodes.items i.chains.items c.args.node.number c.index_mut-cell.result.now c.in-Reserved.chain r.0 c.index.result.now c.in-Used.links c.index.ensures c.in-Used.is in
    record {
      sound = sound-give_back i.nodes.items i.chains.items i.free i.free_count i.most c.self.invariant.sound c.in-Reserved.chain c.in-Used.links l.0 c.args.node.number _ r.0.in_range r.0.was l.1 refl refl;
      spare = are_spare-used i.chains.items i.spare i.spare_count c.in-Reserved.chain c.in-Used.links _ l.0 c.self.invariant.spare;
      cells = c.self.invariant.cells ∙ sym (length-set i.chains.items c.in-Reserved.chain _);
      few = c.self.invariant.few;
      falling = subst AreInTimeOrder (sym (content-give_back i.nodes.items i.chains.items i.free i.free_count i.most i.cells c.self.invariant.sound c.args.node.number _ _ r.0 c.in-Used.links l.0 _ refl)) c.self.invariant.falling;
    }

pub returns : goal.returns
returns c =
    let i = c.self.inside in
    let r = held i.nodes.items i.chains.items i.free i.free_count i.most i.cells c.self.invariant.sound c.args.node.number c.index_mut-cell.result.now _ c.in-Reserved.chain c.in-Reserved.is c.index_mut-cell.ensures.value (rw (← c.self.view_is) at c.requires) in
    let l = links_held i.nodes.items i.chains.items c.args.node.number c.index_mut-cell.result.now c.in-Reserved.chain r.0 c.index.result.now c.in-Used.links c.index.ensures c.in-Used.is in
    content-give_back i.nodes.items i.chains.items i.free i.free_count i.most i.cells c.self.invariant.sound c.args.node.number _ _ r.0 c.in-Used.links l.0 _ refl
    ∙ ap (λ w. given_back w c.args.node.number) c.self.view_is
