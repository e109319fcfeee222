use Rattle.std.proofs.Common.{◌≡◌, ◌<◌, ◌-◌, ◌∷◌, ℕ, List, Option, arith, refl, sym, ◌∙◌, ap, subst, length-set}
use Rattle.std.proofs.lemmas.List.{get_or_default}
use Rattle.span_arena.specs.declared.version.ArenaVersion.{ArenaVersion}
use Rattle.span_arena.specs.Content.{Content, versions}
use Rattle.span_arena.specs.Order.{AreInTimeOrder}
use Rattle.span_arena.specs.Images.{image_of}
use Rattle.span_arena.specs.Runs.{node_at, blank, walk, content, version_of}
use Rattle.span_arena.proofs.Chains.{used_of, read_used, links_were}
use Rattle.span_arena.proofs.Counts.{count-total}
use Rattle.span_arena.proofs.Falling.{falling-rest}
use Rattle.span_arena.proofs.Spares.{are_spare-used}
use Rattle.span_arena.proofs.Taking.{take_in_range, take_sound, take_content, front_is}
use Rattle.span_arena.proofs.arena.Arena.take_newest.Goals as goal

abbrev made : ℕ → Option (List ℕ) → ArenaVersion
made timestamp image = record { timestamp = timestamp; image = image }

pub index_mut-cell-requires : goal.index_mut-cell-requires
index_mut-cell-requires c =
    let i = c.self.inside in
    let h = rw (← c.self.view_is) at c.requires in
    let u = used_of (node_at i.nodes.items) i.chains.items c.args.chain.number h.0 h.1 in
    let used = read_used i.chains.items c.args.chain.number c.index.result.now c.in-Used.links u.0 u.1 c.index.ensures c.in-Used.is in
    let some : 0 < c.in-Used.links.count = omega (arith, c.if-links-eq0.false) in
    omega (arith, i.nodes.ok, take_in_range i.nodes.items i.chains.items i.free i.free_count i.most i.cells c.self.invariant.sound c.args.chain.number c.in-Used.links used some)

pub overflow_add-cell : goal.overflow_add-cell
overflow_add-cell c =
    let i = c.self.inside in
    let h = rw (← c.self.view_is) at c.requires in
    let u = used_of (node_at i.nodes.items) i.chains.items c.args.chain.number h.0 h.1 in
    let used = read_used i.chains.items c.args.chain.number c.index.result.now c.in-Used.links u.0 u.1 c.index.ensures c.in-Used.is in
    let n = rw (links_were i.chains.items c.args.chain.number c.in-Used.links c.in-Used.links used) at (count-total i.chains.items c.args.chain.number) in
    omega (arith, n, c.if-links-eq0.false, c.self.invariant.sound.counted, c.self.invariant.sound.bounded)

pub overflow_add-self : goal.overflow_add-self
overflow_add-self c =
    let i = c.self.inside in
    let h = rw (← c.self.view_is) at c.requires in
    let u = used_of (node_at i.nodes.items) i.chains.items c.args.chain.number h.0 h.1 in
    let used = read_used i.chains.items c.args.chain.number c.index.result.now c.in-Used.links u.0 u.1 c.index.ensures c.in-Used.is in
    let n = rw (links_were i.chains.items c.args.chain.number c.in-Used.links c.in-Used.links used) at (count-total i.chains.items c.args.chain.number) in
    omega (arith, n, c.if-links-eq0.false, c.self.invariant.sound.counted, c.self.invariant.sound.bounded)

pub invariant_of-self : goal.invariant_of-self
invariant_of-self c =
    let i = c.self.inside in
    let h = rw (← c.self.view_is) at c.requires in
    let u = used_of (node_at i.nodes.items) i.chains.items c.args.chain.number h.0 h.1 in
    let used = read_used i.chains.items c.args.chain.number c.index.result.now c.in-Used.links u.0 u.1 c.index.ensures c.in-Used.is in
    let some : 0 < c.in-Used.links.count = omega (arith, c.if-links-eq0.false) in
    let e = c.index_mut-cell.ensures.value ∙ get_or_default i.nodes.items c.in-Used.links.newest c.index_mut-cell.result.now blank (take_in_range i.nodes.items i.chains.items i.free i.free_count i.most i.cells c.self.invariant.sound c.args.chain.number c.in-Used.links used some) in
    record {
      sound = rw e (take_sound i.nodes.items i.chains.items i.free i.free_count i.most i.cells c.self.invariant.sound c.args.chain.number c.in-Used.links used some _ refl refl);
      spare = are_spare-used i.chains.items i.spare i.spare_count c.args.chain.number c.in-Used.links _ used c.self.invariant.spare;
      cells = c.self.invariant.cells ∙ sym (length-set i.chains.items c.args.chain.number _);
      few = c.self.invariant.few;
      falling = rw e (subst AreInTimeOrder (sym (take_content i.nodes.items i.chains.items i.free i.free_count i.most i.cells c.self.invariant.sound c.args.chain.number c.in-Used.links used some _ refl refl)) (falling-rest (content i.nodes.items i.chains.items i.free_count i.most i.cells) c.args.chain.number _ _ c.self.invariant.falling (front_is i.nodes.items i.chains.items i.free i.free_count i.most i.cells c.self.invariant.sound c.args.chain.number c.in-Used.links used some)));
    }

pub returns : goal.returns
returns c =
    let i = c.self.inside in
    let h = rw (← c.self.view_is) at c.requires in
    let u = used_of (node_at i.nodes.items) i.chains.items c.args.chain.number h.0 h.1 in
    let used = read_used i.chains.items c.args.chain.number c.index.result.now c.in-Used.links u.0 u.1 c.index.ensures c.in-Used.is in
    let some : 0 < c.in-Used.links.count = omega (arith, c.if-links-eq0.false) in
    let f = node_at i.nodes.items in
    let newest = c.in-Used.links.newest in
    let e : c.index_mut-cell.result.now ≡ f newest = c.index_mut-cell.ensures.value ∙ get_or_default i.nodes.items newest c.index_mut-cell.result.now blank (take_in_range i.nodes.items i.chains.items i.free i.free_count i.most i.cells c.self.invariant.sound c.args.chain.number c.in-Used.links used some) in
    let image = c.join_image.ensures ∙ ap (image_of c.index_mut-cell.result.now.has_image) c.replace-image.ensures.value in
    let version : version_of (f newest) ≡ made c.index_mut-cell.result.now.timestamp c.join_image.result = ap version_of (sym e) ∙ ap (made c.index_mut-cell.result.now.timestamp) (sym image) in
    record {
      rest = walk f (c.in-Used.links.count - 1) (f newest).next;
      was = ap (λ (a : Content). versions a c.args.chain.number) (sym c.self.view_is) ∙ front_is i.nodes.items i.chains.items i.free i.free_count i.most i.cells c.self.invariant.sound c.args.chain.number c.in-Used.links used some ∙ ap (λ (v : ArenaVersion). v ∷ walk f (c.in-Used.links.count - 1) (f newest).next) version;
      now = rw (← c.self.view_is, e) (take_content i.nodes.items i.chains.items i.free i.free_count i.most i.cells c.self.invariant.sound c.args.chain.number c.in-Used.links used some _ refl refl);
    }
