use Rattle.std.proofs.Common.{◌≡◌, ◌∙◌, ◌<◌, refl, sym, ap, arith, length, length-set, set}
use Rattle.span_arena.specs.Content.{Content, with_at}
use Rattle.span_arena.specs.Cells.{new_cell}
use Rattle.span_arena.specs.Runs.{AreSpare}
use Rattle.span_arena.proofs.Spares.{cells_set, cells_more, few-set, few-push, spare_not_used, spare_in_range, spare_was, are_spare-taken, are_spare-push, all_chains, sound-new_chain, content-new_chain, sound-more_chains, content-more_chains}
use Rattle.span_arena.proofs.Falling.{falling-new_chain}
use Rattle.span_arena.proofs.arena.Arena.add_chain.Goals as goal

pub unreachable-requires : goal.unreachable-requires
unreachable-requires c =
    let i = c.self.inside in
    spare_not_used i.chains.items i.spare i.spare_count c.self.invariant.spare.list c.if-self-gt0.true c.index.result.now _ c.index.ensures c.in_default.is

pub invariant_of-self : goal.invariant_of-self
invariant_of-self c =
    let i = c.self.inside in
    let was = spare_was i.chains.items i.spare i.spare_count c.self.invariant.spare.list c.if-self-gt0.true c.index.result.now _ _ c.index.ensures c.in-Free.is in
    rw c.replace.ensures (record {
      sound = sound-new_chain i.nodes.items i.chains.items i.free i.free_count i.most i.cells c.self.invariant.sound i.spare _ _ (spare_in_range i.chains.items i.spare i.spare_count c.self.invariant.spare.list c.if-self-gt0.true) was.0;
      spare = are_spare-taken i.chains.items i.spare i.spare_count c.self.invariant.spare c.if-self-gt0.true c.index.result.now _ _ _ c.index.ensures c.in-Free.is;
      cells = length-set i.cells i.spare _ ∙ c.self.invariant.cells ∙ sym (length-set i.chains.items i.spare _);
      few = few-set i.cells i.spare _ c.self.invariant.few;
      falling = falling-new_chain _ _ i.spare c.self.invariant.falling (content-new_chain i.nodes.items i.chains.items i.free i.free_count i.most i.cells c.self.invariant.sound (set i.cells i.spare c.new-cell.result) i.spare _ _ (spare_in_range i.chains.items i.spare i.spare_count c.self.invariant.spare.list c.if-self-gt0.true) was.0);
    })

pub returns-then-self-gt0-clause-ok : goal.returns-then-self-gt0-clause-ok
returns-then-self-gt0-clause-ok c =
    let i = c.self.inside in
    let was = spare_was i.chains.items i.spare i.spare_count c.self.invariant.spare.list c.if-self-gt0.true c.index.result.now _ _ c.index.ensures c.in-Free.is in
    rw (← c.self.view_is, c.replace.ensures) (content-new_chain i.nodes.items i.chains.items i.free i.free_count i.most i.cells c.self.invariant.sound (set i.cells i.spare c.new-cell.result) i.spare _ _ (spare_in_range i.chains.items i.spare i.spare_count c.self.invariant.spare.list c.if-self-gt0.true) was.0)

pub returns-then-self-gt0-clause-cell : goal.returns-then-self-gt0-clause-cell
returns-then-self-gt0-clause-cell c =
    let i = c.self.inside in
    let lt : i.spare < length i.cells = omega (arith, c.self.invariant.cells, spare_in_range i.chains.items i.spare i.spare_count c.self.invariant.spare.list c.if-self-gt0.true) in
    c.replace.ensures ∙ cells_set i.cells i.spare c.new-cell.result (new_cell c.args.key) lt c.new-cell.ensures ∙ ap (λ (w : Content). with_at w.cells i.spare (new_cell c.args.key)) c.self.view_is

pub returns-then-number-ge-MOST_CHAINS-clause-memory : goal.returns-then-number-ge-MOST_CHAINS-clause-memory
returns-then-number-ge-MOST_CHAINS-clause-memory c =
    let i = c.self.inside in
    let spare : AreSpare i.chains.items i.spare 0 = (let e : i.spare_count ≡ 0 = omega (arith, c.if-self-gt0.false) in rw e at c.self.invariant.spare) in
    rw (← c.self.view_is) (refl, all_chains i.nodes.items i.chains.items i.free i.free_count i.most i.cells c.self.invariant.sound i.spare spare)

pub returns-in_default-reserve-clause-memory : goal.returns-in_default-reserve-clause-memory
returns-in_default-reserve-clause-memory c =
    let i = c.self.inside in
    let spare : AreSpare i.chains.items i.spare 0 = (let e : i.spare_count ≡ 0 = omega (arith, c.if-self-gt0.false) in rw e at c.self.invariant.spare) in
    rw (← c.self.view_is) (refl, all_chains i.nodes.items i.chains.items i.free i.free_count i.most i.cells c.self.invariant.sound i.spare spare)

pub returns-in_default-push-clause-memory : goal.returns-in_default-push-clause-memory
returns-in_default-push-clause-memory c =
    let i = c.self.inside in
    let spare : AreSpare i.chains.items i.spare 0 = (let e : i.spare_count ≡ 0 = omega (arith, c.if-self-gt0.false) in rw e at c.self.invariant.spare) in
    rw (← c.self.view_is) (refl, all_chains i.nodes.items i.chains.items i.free i.free_count i.most i.cells c.self.invariant.sound i.spare spare)

pub invariant_of-self-2 : goal.invariant_of-self-2
invariant_of-self-2 c =
    let i = c.self.inside in
    let spare : AreSpare i.chains.items i.spare 0 = (let e : i.spare_count ≡ 0 = omega (arith, c.if-self-gt0.false) in rw e at c.self.invariant.spare) in
    rw (c.push_reserved.ensures.items, c.in-Ok.ensures.items) (record {
      sound = sound-more_chains i.nodes.items i.chains.items i.free i.free_count i.most i.cells c.self.invariant.sound;
      spare = are_spare-push i.chains.items _ i.spare i.spare_count (omega (arith, c.if-self-gt0.false)) c.self.invariant.spare;
      cells = cells_more i.cells _ c.new-cell.result i.chains.items _ _ c.self.invariant.cells c.in-Ok-push.ensures.ok refl;
      few = few-push i.cells _ c.new-cell.result c.in-Ok-push.ensures.ok (omega (arith, c.if-number-ge-MOST_CHAINS.false, c.len-number.ensures, i.chains.ok, c.self.invariant.cells));
      falling = falling-new_chain _ _ _ c.self.invariant.falling (content-more_chains i.nodes.items i.chains.items i.free i.free_count i.most i.cells c.self.invariant.sound c.push.new.self i.spare spare);
    })

pub returns-clause-ok : goal.returns-clause-ok
returns-clause-ok c =
    let i = c.self.inside in
    let at : c.len-number.result ≡ length i.chains.items = omega (arith, c.len-number.ensures, i.chains.ok) in
    let spare : AreSpare i.chains.items i.spare 0 = (let e : i.spare_count ≡ 0 = omega (arith, c.if-self-gt0.false) in rw e at c.self.invariant.spare) in
    rw (← c.self.view_is, c.push_reserved.ensures.items, c.in-Ok.ensures.items, at) (content-more_chains i.nodes.items i.chains.items i.free i.free_count i.most i.cells c.self.invariant.sound _ i.spare spare)
