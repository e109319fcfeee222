use Rattle.std.proofs.Common.{◌++◌}
use Rattle.std.specs.Vec.Iter.{into_iter_items}
use Rattle.span_maderows.proofs.MadeRows.{moved_next}
use Rattle.span_maderows.proofs.ordered.insert_all.Goals as goal

pub loop-key-preserved-in_ok-_before : goal.loop-key-preserved-in_ok-_before
loop-key-preserved-in_ok-_before c =
    moved_next (c.args.map.now.entries ++ c.args.rows.items) c.loop-key.map.entries c.insert.new.self.entries (into_iter_items c.loop-key.key-iterator) (into_iter_items c.next.new.self) c.in-Some.key c.in-Some.row c.requires
    c.loop-key.invariant c.in-Some.ensures.steps.0 c.in_ok-_before.ensures.entries

pub loop-key-preserved : goal.loop-key-preserved
loop-key-preserved c =
    moved_next (c.args.map.now.entries ++ c.args.rows.items) c.loop-key.map.entries c.insert.new.self.entries (into_iter_items c.loop-key.key-iterator) (into_iter_items c.next.new.self) c.in-Some.key c.in-Some.row c.requires
    c.loop-key.invariant c.in-Some.ensures.steps.0 c.in_ok-_before.ensures.entries
