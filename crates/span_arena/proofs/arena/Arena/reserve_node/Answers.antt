use Rattle.std.proofs.Common.{◌≡◌, ◌<◌, ℕ, suc, List, Option, Some, ap, ◌-◌, ◌∙◌, sym, refl, arith, length, map, inl, inr}
use Rattle.std.proofs.Common.{length-set}
use Rattle.span_arena.specs.declared.record.NodeUse.TheVariants.{Reserved}
use Rattle.span_arena.specs.Runs.{node_at, prepared_of, prepared_of_use}
use Rattle.span_arena.proofs.Counts.{part_prepared}
use Rattle.span_arena.proofs.Chains.{used_of, read_used, links_were}
use Rattle.span_arena.proofs.Moves.{sound-reuse, sound-push}
use Rattle.span_arena.proofs.Contents.{live_is, first_free, content-reuse, content-push}
use Rattle.span_arena.proofs.Spares.{are_spare-used}
use Rattle.span_arena.proofs.Falling.{falling-reserve}
use Rattle.span_arena.proofs.arena.Arena.reserve_node.Goals as goal

same_image : (chain : ℕ) (u w : Option (List ℕ)) → u ≡ w → prepared_of_use (Reserved chain) u ≡ Some (record { chain = chain; image = w })
same_image chain u w e = ap (prepared_of_use (Reserved chain)) e

pub overflow_add-links : goal.overflow_add-links
overflow_add-links c =
    let i = c.self.inside in
    let h = rw (← c.self.view_is) at c.requires in
    let u = used_of (node_at i.nodes.items) i.chains.items c.args.chain.number h.0 h.1 in
    let used = read_used i.chains.items c.args.chain.number c.index.result.now c.in-Used.links u.0 u.1 c.index.ensures c.in-Used.is in
    let n = rw (c.self.invariant.sound.prepared c.args.chain.number, links_were i.chains.items c.args.chain.number c.in-Used.links c.in-Used.links used) at (part_prepared c.args.chain.number (map prepared_of i.nodes.items)) in
    omega (arith, n, c.if-self-gt0.true, c.self.invariant.sound.counted, c.self.invariant.sound.bounded)

pub overflow_add-links-2 : goal.overflow_add-links-2
overflow_add-links-2 c =
    let i = c.self.inside in
    let h = rw (← c.self.view_is) at c.requires in
    let u = used_of (node_at i.nodes.items) i.chains.items c.args.chain.number h.0 h.1 in
    let used = read_used i.chains.items c.args.chain.number c.index.result.now c.in-Used.links u.0 u.1 c.index.ensures c.in-Used.is in
    let n = rw (c.self.invariant.sound.prepared c.args.chain.number, links_were i.chains.items c.args.chain.number c.in-Used.links c.in-Used.links used) at (part_prepared c.args.chain.number (map prepared_of i.nodes.items)) in
    omega (arith, n, c.if-number-self.false, c.len-number.ensures, i.nodes.ok, c.self.invariant.sound.counted)

pub index_mut-node-requires : goal.index_mut-node-requires
index_mut-node-requires c =
    let i = c.self.inside in
    omega (arith, i.nodes.ok, (first_free i.nodes.items i.chains.items i.free i.free_count i.most i.cells c.self.invariant.sound c.if-self-gt0.true).0)

pub invariant_of-self : goal.invariant_of-self
invariant_of-self c =
    let i = c.self.inside in
    let h = rw (← c.self.view_is) at c.requires in
    let u = used_of (node_at i.nodes.items) i.chains.items c.args.chain.number h.0 h.1 in
    let used = read_used i.chains.items c.args.chain.number c.index.result.now c.in-Used.links u.0 u.1 c.index.ensures c.in-Used.is in
    let f = first_free i.nodes.items i.chains.items i.free i.free_count i.most i.cells c.self.invariant.sound c.if-self-gt0.true in
    let e = f.2 _ c.index_mut-node.ensures.value in
    let n : i.free_count ≡ suc (i.free_count - 1) = omega (arith, c.if-self-gt0.true) in
    record {
      sound = rw (← e) (sound-reuse i.nodes.items i.chains.items i.free i.free_count i.most c.self.invariant.sound c.args.chain.number c.in-Used.links used (i.free_count - 1) _ n f.0 refl);
      spare = are_spare-used i.chains.items i.spare i.spare_count c.args.chain.number c.in-Used.links _ used c.self.invariant.spare;
      cells = c.self.invariant.cells ∙ sym (length-set i.chains.items c.args.chain.number _);
      few = c.self.invariant.few;
      falling = falling-reserve _ _ c.args.chain.number i.free c.args.image c.self.invariant.falling (content-reuse i.nodes.items i.chains.items i.free i.free_count i.most i.cells c.self.invariant.sound c.args.chain.number c.in-Used.links used c.args.image _ c.if-self-gt0.true f.0 f.1 (same_image c.args.chain.number _ _ c.split_image-has_image.ensures));
    }

pub returns-then-self-gt0-clause-ok : goal.returns-then-self-gt0-clause-ok
returns-then-self-gt0-clause-ok c =
    let i = c.self.inside in
    let h = rw (← c.self.view_is) at c.requires in
    let u = used_of (node_at i.nodes.items) i.chains.items c.args.chain.number h.0 h.1 in
    let used = read_used i.chains.items c.args.chain.number c.index.result.now c.in-Used.links u.0 u.1 c.index.ensures c.in-Used.is in
    let f = first_free i.nodes.items i.chains.items i.free i.free_count i.most i.cells c.self.invariant.sound c.if-self-gt0.true in
    rw (← c.self.view_is) (content-reuse i.nodes.items i.chains.items i.free i.free_count i.most i.cells c.self.invariant.sound c.args.chain.number c.in-Used.links used c.args.image _ c.if-self-gt0.true f.0 f.1 (same_image c.args.chain.number _ _ c.split_image-has_image.ensures))

pub returns-then-number-self-clause-refused : goal.returns-then-number-self-clause-refused
returns-then-number-self-clause-refused c =
    let i = c.self.inside in
    rw (← c.self.view_is) (inl (refl, omega (arith, c.self.invariant.sound.bounded, c.len-number.ensures, c.if-self-gt0.false, i.nodes.ok, live_is i.nodes.items i.chains.items i.free i.free_count i.most i.cells c.self.invariant.sound)))

pub returns-in_default-push-clause-refused : goal.returns-in_default-push-clause-refused
returns-in_default-push-clause-refused c =
    let i = c.self.inside in
    rw (← c.self.view_is) (inr (refl, omega (arith, c.if-number-self.false, c.len-number.ensures, c.if-self-gt0.false, i.nodes.ok, live_is i.nodes.items i.chains.items i.free i.free_count i.most i.cells c.self.invariant.sound), omega (arith, c.if-self-gt0.false)))

pub invariant_of-self-2 : goal.invariant_of-self-2
invariant_of-self-2 c =
    let i = c.self.inside in
    let h = rw (← c.self.view_is) at c.requires in
    let u = used_of (node_at i.nodes.items) i.chains.items c.args.chain.number h.0 h.1 in
    let used = read_used i.chains.items c.args.chain.number c.index.result.now c.in-Used.links u.0 u.1 c.index.ensures c.in-Used.is in
    let none : i.free_count ≡ 0 = omega (arith, c.if-self-gt0.false) in
    let below : length i.nodes.items < i.most = omega (arith, c.if-number-self.false, c.len-number.ensures, i.nodes.ok) in
    record {
      sound = rw c.in-Ok.ensures.items (sound-push i.nodes.items i.chains.items i.free i.free_count i.most c.self.invariant.sound c.args.chain.number c.in-Used.links used _ refl none below);
      spare = are_spare-used i.chains.items i.spare i.spare_count c.args.chain.number c.in-Used.links _ used c.self.invariant.spare;
      cells = c.self.invariant.cells ∙ sym (length-set i.chains.items c.args.chain.number _);
      few = c.self.invariant.few;
      falling = rw c.in-Ok.ensures.items (falling-reserve _ _ c.args.chain.number (length i.nodes.items) c.args.image c.self.invariant.falling (content-push i.nodes.items i.chains.items i.free i.free_count i.most i.cells c.self.invariant.sound c.args.chain.number c.in-Used.links used c.args.image _ none below (same_image c.args.chain.number _ _ c.split_image-has_image.ensures)));
    }

pub returns-clause-ok : goal.returns-clause-ok
returns-clause-ok c =
    let i = c.self.inside in
    let h = rw (← c.self.view_is) at c.requires in
    let u = used_of (node_at i.nodes.items) i.chains.items c.args.chain.number h.0 h.1 in
    let used = read_used i.chains.items c.args.chain.number c.index.result.now c.in-Used.links u.0 u.1 c.index.ensures c.in-Used.is in
    let none : i.free_count ≡ 0 = omega (arith, c.if-self-gt0.false) in
    let below : length i.nodes.items < i.most = omega (arith, c.if-number-self.false, c.len-number.ensures, i.nodes.ok) in
    let at : c.len-number.result ≡ length i.nodes.items = omega (arith, c.len-number.ensures, i.nodes.ok) in
    rw (← c.self.view_is, c.in-Ok.ensures.items, at) (content-push i.nodes.items i.chains.items i.free i.free_count i.most i.cells c.self.invariant.sound c.args.chain.number c.in-Used.links used c.args.image _ none below (same_image c.args.chain.number _ _ c.split_image-has_image.ensures))
