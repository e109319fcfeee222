use Rattle.std.proofs.Common.{◌≡◌, ◌∙◌, ap, sym, refl, arith, ◌<◌, ◌+◌, ◌-◌, length, subst}
use Rattle.std.proofs.lemmas.List.{get_or_default, length-set}
use Rattle.span_arena.specs.Content.{Content, versions, with_kept, kept_by}
use Rattle.span_arena.specs.Runs.{node_at, blank}
use Rattle.span_arena.specs.Order.{AreInTimeOrder}
use Rattle.span_arena.proofs.Falling.{falling-keep}
use Rattle.span_arena.proofs.Chains.{used_of, read_used}
use Rattle.span_arena.proofs.Spares.{are_spare-used}
use Rattle.span_arena.proofs.Walking.{init_run}
use Rattle.span_arena.proofs.Cutting.{trimming_starts, trimming_ends, trim_in_range, trim_content, trim_sound}
use Rattle.span_arena.proofs.arena.Arena.keep.Goals as goal

pub cut-kept-requires : goal.cut-kept-requires
cut-kept-requires c =
    let i = c.self.inside in
    let h = rw (← c.self.view_is) at c.requires in
    let u = used_of (node_at i.nodes.items) i.chains.items c.args.chain.number h.0 h.1 in
    let used = read_used i.chains.items c.args.chain.number c.index.result.now c.in-Used.links u.0 u.1 c.index.ensures c.in-Used.is in
    let r = init_run i.nodes.items i.chains.items i.free i.free_count i.most i.cells c.self.invariant.sound c.args.chain.number c.in-Used.links used in
    r.0

pub loop-left-init : goal.loop-left-init
loop-left-init c =
    let i = c.self.inside in
    let h = rw (← c.self.view_is) at c.requires in
    let u = used_of (node_at i.nodes.items) i.chains.items c.args.chain.number h.0 h.1 in
    let used = read_used i.chains.items c.args.chain.number c.index.result.now c.in-Used.links u.0 u.1 c.index.ensures c.in-Used.is in
    let r = trimming_starts i.nodes.items i.chains.items i.free i.free_count i.most i.cells c.args.chain.number c.in-Used.links c.args.horizon c.cut-kept.result.0 c.cut-kept.result.1 c.self.invariant.sound used c.cut-kept.ensures in
    record {
      trimming = r.sound;
      spare = are_spare-used i.chains.items i.spare i.spare_count c.args.chain.number c.in-Used.links _ used c.self.invariant.spare;
      cells = c.self.invariant.cells ∙ sym (length-set i.chains.items c.args.chain.number _);
      few = c.self.invariant.few;
      same = r.same ∙ ap (λ (w : Content). with_kept w c.args.chain.number (kept_by c.args.horizon (versions w c.args.chain.number))) c.self.view_is;
    }

pub index_mut-cell-requires : goal.index_mut-cell-requires
index_mut-cell-requires c =
    let i = c.loop-left.self-inside in
    let lt : c.loop-left.at < length i.nodes.items = trim_in_range i.nodes.items i.chains.items i.free i.free_count i.most c.args.chain.number c.loop-left.left c.loop-left.at c.loop-left.invariant.trimming c.loop-left-test.true in
    omega (arith, i.nodes.ok)

pub loop-left-preserved : goal.loop-left-preserved
loop-left-preserved c =
    let i = c.loop-left.self-inside in
    let lt : c.loop-left.at < length i.nodes.items = trim_in_range i.nodes.items i.chains.items i.free i.free_count i.most c.args.chain.number c.loop-left.left c.loop-left.at c.loop-left.invariant.trimming c.loop-left-test.true in
    let e = c.index_mut-cell.ensures.value ∙ get_or_default i.nodes.items c.loop-left.at c.index_mut-cell.result.now blank lt in
    let n : i.free_count + 1 + (c.loop-left.left - 1) ≡ i.free_count + c.loop-left.left = omega (arith, c.loop-left-test.true) in
    record {
      trimming = rw e (trim_sound i.nodes.items i.chains.items i.free i.free_count i.most c.args.chain.number c.loop-left.left c.loop-left.at c.loop-left.invariant.trimming c.loop-left-test.true _ refl refl);
      spare = c.loop-left.invariant.spare;
      cells = c.loop-left.invariant.cells;
      few = c.loop-left.invariant.few;
      same = rw n (trim_content i.nodes.items i.chains.items i.free i.free_count i.most c.args.chain.number c.loop-left.left c.loop-left.at c.loop-left.invariant.trimming c.loop-left-test.true _ i.cells (i.free_count + 1) refl (i.free_count + c.loop-left.left) ∙ c.loop-left.invariant.same);
    }

pub invariant_of-self : goal.invariant_of-self
invariant_of-self c =
    let i = c.loop-left.self-inside in
    record {
      sound = trimming_ends i.nodes.items i.chains.items i.free i.free_count i.most c.args.chain.number c.loop-left.left c.loop-left.at c.loop-left.invariant.trimming (omega (arith, c.loop-left-test.false));
      spare = c.loop-left.invariant.spare;
      cells = c.loop-left.invariant.cells;
      few = c.loop-left.invariant.few;
      falling = subst AreInTimeOrder (sym c.loop-left.invariant.same) (falling-keep c.args.self.now c.args.chain.number c.args.horizon (subst AreInTimeOrder c.self.view_is c.self.invariant.falling));
    }
