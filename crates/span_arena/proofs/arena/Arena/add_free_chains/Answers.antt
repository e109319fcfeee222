use Rattle.std.proofs.Common.{◌≡◌, ◌∙◌, ◌++◌, List, ap, arith, length, sym, subst, replicate}
use Rattle.std.proofs.lemmas.List.{length-append, length-replicate}
use Rattle.span_arena.specs.declared.record.ChainRecord.{ChainRecord}
use Rattle.span_arena.specs.Cells.{blank}
use Rattle.span_arena.specs.FreeOrders.{AreFreeChains}
use Rattle.span_arena.specs.Order.{AreInTimeOrder}
use Rattle.span_arena.specs.Runs.{content}
use Rattle.span_arena.proofs.FreeLists.{cells_also, content_more, falling_more, sound_more, spare_more}
use Rattle.span_arena.proofs.arena.Arena.add_free_chains.Goals as goal

pub invariant_of-self-2 : goal.invariant_of-self-2
invariant_of-self-2 c =
    let i = c.self.inside in
    let order = c.args.order.now in
    let base : c.len-base.result ≡ length i.chains.items = omega (arith, c.len-base.ensures, i.chains.ok) in
    let put = c.put_free_chains.ensures in
    let ms = put.records in
    let new : AreFreeChains (length i.chains.items) order i.spare i.spare_count ms = subst (λ (l : List ChainRecord). AreFreeChains (length l) order i.spare i.spare_count ms) c.reserve_more.ensures.items put.free in
    let after : c.put_free_chains.new.chains.items ≡ i.chains.items ++ ms = put.after ∙ ap (λ (l : List ChainRecord). l ++ ms) c.reserve_more.ensures.items in
    let more : c.add_blanks.new.self ≡ i.cells ++ replicate c.len-count.result blank = c.in_ok-add_blanks.ensures.ok in
    let blanks : c.add_blanks.new.self ≡ i.cells ++ replicate (length order) blank = more ∙ ap (λ n. i.cells ++ replicate n blank) c.len-count.ensures in
    let start : c.number_at-self-inside.result ≡ _ = c.number_at-self-inside.ensures in
    rw (after, start, base, c.len-count.ensures) (record {
      sound = sound_more i.chains.items order i.spare i.spare_count ms new i.nodes.items i.free i.free_count i.most i.cells c.self.invariant.sound;
      spare = spare_more i.chains.items order i.spare i.spare_count ms new c.self.invariant.spare;
      cells = cells_also i.cells c.add_blanks.new.self i.chains.items ms order i.spare i.spare_count new blanks c.self.invariant.cells;
      few = rw blanks (omega (arith, c.if-count-base.false, base, c.self.invariant.cells, c.self.invariant.few, c.len-count.ensures, length-append i.cells (replicate (length order) blank), length-replicate (length order) blank));
      falling = subst AreInTimeOrder (sym (content_more i.chains.items order i.spare i.spare_count ms new i.nodes.items i.free_count i.most i.cells c.add_blanks.new.self blanks)) (falling_more (length order) (content i.nodes.items i.chains.items i.free_count i.most i.cells) c.self.invariant.falling);
    })

pub returns-clause-ok : goal.returns-clause-ok
returns-clause-ok c =
    let i = c.self.inside in
    let order = c.args.order.now in
    let put = c.put_free_chains.ensures in
    let ms = put.records in
    let new : AreFreeChains (length i.chains.items) order i.spare i.spare_count ms = subst (λ (l : List ChainRecord). AreFreeChains (length l) order i.spare i.spare_count ms) c.reserve_more.ensures.items put.free in
    let after : c.put_free_chains.new.chains.items ≡ i.chains.items ++ ms = put.after ∙ ap (λ (l : List ChainRecord). l ++ ms) c.reserve_more.ensures.items in
    let more : c.add_blanks.new.self ≡ i.cells ++ replicate c.len-count.result blank = c.in_ok-add_blanks.ensures.ok in
    let blanks : c.add_blanks.new.self ≡ i.cells ++ replicate (length order) blank = more ∙ ap (λ n. i.cells ++ replicate n blank) c.len-count.ensures in
    rw (← c.self.view_is, after)
    (content_more i.chains.items order i.spare i.spare_count ms new i.nodes.items i.free_count i.most i.cells c.add_blanks.new.self blanks)
