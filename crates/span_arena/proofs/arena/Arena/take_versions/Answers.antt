use Rattle.std.proofs.Common.{◌≡◌, ◌<◌, ◌+◌, ◌-◌, ◌++◌, ◌∷◌, [], ℕ, List, Option, arith, length, refl, sym, ◌∙◌, ap, subst, length-set}
use Rattle.std.proofs.lemmas.List.{get_or_default}
use Rattle.span_arena.specs.declared.version.ArenaVersion.{ArenaVersion}
use Rattle.span_arena.specs.declared.record.NodeRecord.{NodeRecord}
use Rattle.span_arena.specs.declared.record.ChainRecord.{ChainRecord}
use Rattle.span_arena.specs.declared.record.NodeUse.TheVariants.{Linked}
use Rattle.span_arena.specs.Content.{Content, versions}
use Rattle.span_arena.specs.Order.{AreInTimeOrder}
use Rattle.span_arena.specs.Runs.{node_at, blank, content, links_of, links_at, version_of, walk}
use Rattle.span_arena.proofs.Chains.{used_of, read_used}
use Rattle.span_arena.proofs.Counts.{length-walk}
use Rattle.span_arena.proofs.Emptying.{IsEmptied, emptying_starts, emptying_less, emptying_more, emptying_ends}
use Rattle.span_arena.proofs.Falling.{falling-versions}
use Rattle.span_arena.proofs.Filling.{filling_starts, fill_in_range, fill_content, fill_walk, fill_end, fill_sound, filling_ends}
use Rattle.span_arena.proofs.Spares.{are_spare-used}
use Rattle.span_arena.proofs.Taking.{loose_linked, versions_here}
use Rattle.span_arena.proofs.arena.Arena.take_versions.Goals as goal

abbrev made : ℕ → Option (List ℕ) → ArenaVersion
made timestamp image = record { timestamp = timestamp; image = image }

pub loop-version-init : goal.loop-version-init
loop-version-init c =
    let i = c.self.inside in
    let h = rw (← c.self.view_is) at c.requires.chain in
    let u = used_of (node_at i.nodes.items) i.chains.items c.args.chain.number h.0 h.1 in
    let used = read_used i.chains.items c.args.chain.number c.index.result.now c.in-Used.links u.0 u.1 c.index.ensures c.in-Used.is in
    let none : c.in-Used.links.count ≡ 0 =
    sym (length-walk (node_at i.nodes.items) c.in-Used.links.count c.in-Used.links.newest)
    ∙ ap length (sym (versions_here i.nodes.items i.chains.items i.free i.free_count i.most i.cells c.self.invariant.sound c.args.chain.number c.in-Used.links used) ∙ ap (λ (a : Content). versions a c.args.chain.number) c.self.view_is ∙ c.requires.none) in
    let free : i.free_count ≡ c.args.self.now.free = ap (λ (a : Content). a.free) c.self.view_is in
    let all : i.free_count + 0 ≡ i.free_count = omega arith in
    record {
      filling = filling_starts i.nodes.items i.chains.items i.free i.free_count i.most c.args.chain.number c.in-Used.links c.self.invariant.sound used none;
      end = refl;
      used = used;
      none = none;
      spare = c.self.invariant.spare;
      cells = c.self.invariant.cells;
      few = c.self.invariant.few;
      same = ap (λ (k : ℕ). content i.nodes.items i.chains.items k i.most i.cells) all ∙ c.self.view_is;
      emptied = emptying_starts c.args.from.now c.args.source.number c.requires.source;
      enough = omega (arith, free, c.requires.free);
    }

pub index_mut-cell-requires : goal.index_mut-cell-requires
index_mut-cell-requires c =
    let i = c.self.inside in
    let j = c.loop-version.self-inside in
    let inv = c.loop-version.invariant in
    let less = emptying_less c.args.from.now c.loop-version.from c.take_newest.new.self c.args.source.number _ c.in-Some.version inv.emptied c.in-Some.ensures in
    let some : 0 < j.free_count = omega (arith, less, inv.enough) in
    omega (arith, j.nodes.ok, fill_in_range j.nodes.items j.chains.items j.free j.free_count j.most c.args.chain.number c.loop-version.count i.free inv.filling some)

pub loop-version-preserved : goal.loop-version-preserved
loop-version-preserved c =
    let i = c.self.inside in
    let j = c.loop-version.self-inside in
    let inv = c.loop-version.invariant in
    let less = emptying_less c.args.from.now c.loop-version.from c.take_newest.new.self c.args.source.number _ c.in-Some.version inv.emptied c.in-Some.ensures in
    let some : 0 < j.free_count = omega (arith, less, inv.enough) in
    let e : c.index_mut-cell.result.now ≡ node_at j.nodes.items j.free = c.index_mut-cell.ensures.value ∙ get_or_default j.nodes.items j.free c.index_mut-cell.result.now blank (fill_in_range j.nodes.items j.chains.items j.free j.free_count j.most c.args.chain.number c.loop-version.count i.free inv.filling some) in
    let x : NodeRecord = record { used = Linked c.args.chain.number; next = c.index_mut-cell.result.now.next; has_image = c.split_image-has_image.result.0; timestamp = c.in-Some.version.timestamp; image = c.split_image-has_image.result.1 } in
    let zero : (links_at j.chains.items c.args.chain.number).count ≡ 0 = ap (λ (r : ChainRecord). (links_of r).count) inv.used ∙ inv.none in
    let k : j.free_count - 1 + (c.loop-version.count + 1) ≡ j.free_count + c.loop-version.count = omega (arith, some) in
    let version : version_of x ≡ c.in-Some.version = ap (made c.in-Some.version.timestamp) c.split_image-has_image.ensures in
    let next : x.next ≡ (node_at j.nodes.items j.free).next = ap (λ (n : NodeRecord). n.next) e in
    record {
      filling = rw e (fill_sound j.nodes.items j.chains.items j.free j.free_count j.most c.args.chain.number c.loop-version.count i.free inv.filling some _ refl inv.end zero);
      end = fill_end j.nodes.items j.chains.items j.free j.free_count j.most c.args.chain.number c.loop-version.count i.free inv.filling some x refl inv.end next ∙ sym next;
      used = inv.used;
      none = inv.none;
      spare = inv.spare;
      cells = inv.cells;
      few = inv.few;
      same = rw k (fill_content j.nodes.items j.chains.items j.free j.free_count j.most c.args.chain.number c.loop-version.count i.free inv.filling some x refl j.cells (j.free_count + c.loop-version.count) ∙ inv.same);
      emptied = subst (λ (l : List ArenaVersion). IsEmptied c.args.from.now c.take_newest.new.self c.args.source.number l) (sym (fill_walk j.nodes.items j.chains.items j.free j.free_count j.most c.args.chain.number c.loop-version.count i.free inv.filling some x refl inv.end ∙ ap (λ (v : ArenaVersion). walk (node_at j.nodes.items) c.loop-version.count i.free ++ v ∷ []) version))
          (emptying_more c.args.from.now c.loop-version.from c.take_newest.new.self c.args.source.number _ c.in-Some.version inv.emptied c.in-Some.ensures);
      enough = omega (arith, less, inv.enough, some);
    }

pub invariant_of-self : goal.invariant_of-self
invariant_of-self c =
    let i = c.self.inside in
    let j = c.loop-version.self-inside in
    let inv = c.loop-version.invariant in
    let done = emptying_ends c.args.from.now c.loop-version.from c.args.source.number _ inv.emptied c.in_default-take_newest.ensures.0 in
    let same = filling_ends j.nodes.items j.chains.items j.free j.free_count j.most c.args.chain.number c.loop-version.count i.free j.cells c.in-Used.links c.args.self.now (versions c.args.from.now c.args.source.number) inv.used inv.same done.0 in
    let falling = subst AreInTimeOrder c.self.view_is c.self.invariant.falling in
    record {
      sound = loose_linked j.nodes.items j.chains.items j.free j.free_count j.most c.args.chain.number c.loop-version.count i.free c.in-Used.links inv.filling inv.used inv.none;
      spare = are_spare-used j.chains.items j.spare j.spare_count c.args.chain.number c.in-Used.links _ inv.used inv.spare;
      cells = inv.cells ∙ sym (length-set j.chains.items c.args.chain.number _);
      few = inv.few;
      falling = subst AreInTimeOrder (sym same) (falling-versions c.args.self.now c.args.chain.number (versions c.args.from.now c.args.source.number) falling (c.versions_are_in_time_order.ensures c.args.source.number));
    }

pub returns-clause-here : goal.returns-clause-here
returns-clause-here c =
    let i = c.self.inside in
    let j = c.loop-version.self-inside in
    let inv = c.loop-version.invariant in
    let done = emptying_ends c.args.from.now c.loop-version.from c.args.source.number _ inv.emptied c.in_default-take_newest.ensures.0 in
    let same = filling_ends j.nodes.items j.chains.items j.free j.free_count j.most c.args.chain.number c.loop-version.count i.free j.cells c.in-Used.links c.args.self.now (versions c.args.from.now c.args.source.number) inv.used inv.same done.0 in
    same
