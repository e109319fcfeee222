use Rattle.std.specs.Vec.Iter.{into_iter_items}
use Rattle.span_shard.proofs.Overlays.{AreRemoving}
use Rattle.span_shard.proofs.overlay.Changes.remove.Given as goal

-- with the rows of the keys that are left removed too, all are
abbrev pub invariant-loop-key : goal.invariant-loop-key
invariant-loop-key l =
    AreRemoving l.fn.self (record { made = l.self-inside.made; removed = l.self-inside.removed.keys; cleared = l.self-inside.cleared.keys })
    l.fn.keys.items (into_iter_items l.key-iterator)
