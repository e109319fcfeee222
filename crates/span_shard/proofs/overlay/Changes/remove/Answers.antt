use Rattle.std.proofs.Common.{refl, sym, ◌∙◌}
use Rattle.std.specs.Vec.Iter.{into_iter_items}
use Rattle.span_shard.proofs.Overlays.{removing_first, removing_next, removed_all}
use Rattle.span_shard.proofs.overlay.Changes.remove.Goals as goal

pub loop-key-init : goal.loop-key-init
loop-key-init c =
    removing_first c.args.self.now (record { made = c.self.inside.made; removed = c.self.inside.removed.keys; cleared = c.self.inside.cleared.keys }) c.args.keys.items (into_iter_items c.into_iter-key-iterator.result)
    (sym c.self.view_is) c.into_iter-key-iterator.ensures.into_iter_gives.0

pub loop-key-preserved : goal.loop-key-preserved
loop-key-preserved c =
    removing_next c.args.self.now (record { made = c.loop-key.self-inside.made; removed = c.loop-key.self-inside.removed.keys; cleared = c.loop-key.self-inside.cleared.keys })
    (record { made = c.remove.new.self; removed = c.insert.new.self.keys; cleared = c.loop-key.self-inside.cleared.keys }) c.args.keys.items (into_iter_items c.loop-key.key-iterator) (into_iter_items c.next.new.self) c.in-Some.key
    c.in-Some.ensures.steps.0 c.in_ok-remove.ensures (λ l. c.in_ok-_is_first.ensures.updates.0 l) refl c.loop-key.invariant

pub returns-clause-removed : goal.returns-clause-removed
returns-clause-removed c = removed_all c.args.self.now _ c.args.keys.items (into_iter_items c.loop-key.key-iterator) (sym c.loop-key.key-iterator.rest.ok.0 ∙ c.in-None.ensures.steps.0) c.loop-key.invariant

pub returns-clause-cleared : goal.returns-clause-cleared
returns-clause-cleared c = c.loop-key.invariant.cleared
