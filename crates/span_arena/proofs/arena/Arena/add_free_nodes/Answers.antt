use Rattle.std.proofs.Common.{◌≡◌, ◌∙◌, ◌+◌, ◌≤◌, ◌++◌, List, ap, arith, length, subst, sym}
use Rattle.span_arena.specs.declared.record.NodeRecord.{NodeRecord}
use Rattle.span_arena.specs.FreeOrders.{AreFreeNodes}
use Rattle.span_arena.specs.Order.{AreInTimeOrder}
use Rattle.span_arena.proofs.FreeLists.{content_nodes, sound_nodes}
use Rattle.span_arena.proofs.arena.Arena.add_free_nodes.Goals as goal

pub invariant_of-self-2 : goal.invariant_of-self-2
invariant_of-self-2 c =
    let i = c.self.inside in
    let order = c.args.order.now in
    let put = c.put_free_nodes.ensures in
    let ms = put.records in
    let base : c.len-base.result ≡ length i.nodes.items = omega (arith, c.len-base.ensures, i.nodes.ok) in
    let new : AreFreeNodes (length i.nodes.items) order i.free i.free_count ms = subst (λ (l : List NodeRecord). AreFreeNodes (length l) order i.free i.free_count ms) c.reserve_more.ensures.items put.free in
    let after : c.put_free_nodes.new.nodes.items ≡ i.nodes.items ++ ms = put.after ∙ ap (λ (l : List NodeRecord). l ++ ms) c.reserve_more.ensures.items in
    let fits : length i.nodes.items + length order ≤ i.most = omega (arith, c.if-count-self.false, base, c.len-count.ensures, c.self.invariant.sound.bounded) in
    rw (after, c.number_at-self-inside.ensures, base, c.len-count.ensures) (record {
      sound = sound_nodes i.nodes.items order i.free i.free_count ms new i.chains.items i.most fits c.self.invariant.sound;
      spare = c.self.invariant.spare;
      cells = c.self.invariant.cells;
      few = c.self.invariant.few;
      falling = subst AreInTimeOrder (sym (content_nodes i.nodes.items order i.free i.free_count ms new i.chains.items i.most i.cells i.free c.self.invariant.sound)) c.self.invariant.falling;
    })

pub returns-clause-ok : goal.returns-clause-ok
returns-clause-ok c =
    let i = c.self.inside in
    let order = c.args.order.now in
    let put = c.put_free_nodes.ensures in
    let ms = put.records in
    let base : c.len-base.result ≡ length i.nodes.items = omega (arith, c.len-base.ensures, i.nodes.ok) in
    let new : AreFreeNodes (length i.nodes.items) order i.free i.free_count ms = subst (λ (l : List NodeRecord). AreFreeNodes (length l) order i.free i.free_count ms) c.reserve_more.ensures.items put.free in
    let after : c.put_free_nodes.new.nodes.items ≡ i.nodes.items ++ ms = put.after ∙ ap (λ (l : List NodeRecord). l ++ ms) c.reserve_more.ensures.items in
    rw (← c.self.view_is, after, c.len-count.ensures)
    (content_nodes i.nodes.items order i.free i.free_count ms new i.chains.items i.most i.cells i.free c.self.invariant.sound)
