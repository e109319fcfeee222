use Rattle.std.proofs.Common.{◌+◌, ap, sym, ◌∙◌, arith, subst, set}
use Rattle.std.proofs.Common.{length-set}
use Rattle.span_arena.specs.declared.record.ChainRecord.TheVariants as chain
use Rattle.span_arena.specs.Runs.{node_at, content}
use Rattle.span_arena.specs.Content.{without_chain}
use Rattle.span_arena.specs.Order.{AreInTimeOrder}
use Rattle.span_arena.proofs.Falling.{falling-free_chain}
use Rattle.span_arena.proofs.Chains.{used_of}
use Rattle.span_arena.proofs.Spares.{are_spare-free, few-set, spare_count_below, sound-free_chain, content-free_chain}
use Rattle.span_arena.proofs.arena.Arena.free_chain.Goals as goal

pub overflow_add-self-inside : goal.overflow_add-self-inside
overflow_add-self-inside c =
    let i = c.self.inside in
    let h = rw (← c.self.view_is) at c.requires.is_chain in
    let u = used_of (node_at i.nodes.items) i.chains.items c.args.chain.number h.0 h.1 in
    omega (arith, i.chains.small, i.chains.ok, spare_count_below i.chains.items i.spare i.spare_count c.args.chain.number u.0 u.1 c.self.invariant.spare)

pub overflow_add-self : goal.overflow_add-self
overflow_add-self c =
    let i = c.self.inside in
    let h = rw (← c.self.view_is) at c.requires.is_chain in
    let u = used_of (node_at i.nodes.items) i.chains.items c.args.chain.number h.0 h.1 in
    omega (arith, i.chains.small, i.chains.ok, spare_count_below i.chains.items i.spare i.spare_count c.args.chain.number u.0 u.1 c.self.invariant.spare)

pub invariant_of-self : goal.invariant_of-self
invariant_of-self c =
    let i = c.self.inside in
    let h = rw (← c.self.view_is) at c.requires.is_chain in
    let unused = rw (← c.self.view_is) at c.requires.unused in
    let u = used_of (node_at i.nodes.items) i.chains.items c.args.chain.number h.0 h.1 in
    rw c.replace.ensures (record {
      sound = sound-free_chain i.nodes.items i.chains.items i.free i.free_count i.most i.cells c.self.invariant.sound c.args.chain.number u.0 _ _ u.1 unused;
      spare = are_spare-free i.chains.items i.spare i.spare_count c.args.chain.number u.0 u.1 c.self.invariant.spare;
      cells = length-set i.cells c.args.chain.number _ ∙ c.self.invariant.cells ∙ sym (length-set i.chains.items c.args.chain.number _);
      few = few-set i.cells c.args.chain.number _ c.self.invariant.few;
      falling = subst AreInTimeOrder (sym (content-free_chain i.nodes.items i.chains.items i.free i.free_count i.most i.cells c.self.invariant.sound c.args.chain.number _ _)) (falling-free_chain (content i.nodes.items i.chains.items i.free_count i.most i.cells) c.args.chain.number c.self.invariant.falling);
    })

pub returns : goal.returns
returns c =
    let i = c.self.inside in
    ap (content i.nodes.items (set i.chains.items c.args.chain.number (chain.Free i.spare (i.spare_count + 1))) i.free_count i.most) (c.replace.ensures ∙ ap (set i.cells c.args.chain.number) c.blank-blank.ensures)
    ∙ content-free_chain i.nodes.items i.chains.items i.free i.free_count i.most i.cells c.self.invariant.sound c.args.chain.number _ _
    ∙ ap (λ w. without_chain w c.args.chain.number) c.self.view_is
