use Rattle.std.proofs.Common.{ap, ◌∙◌}
use Rattle.span_maderows.proofs.Hashing.{put_all, put_from_none, put_next}
use Rattle.span_maderows.proofs.hashed.map_of.Goals as goal

pub loop-key-init : goal.loop-key-init
loop-key-init c = ap (put_all c.args.rows.items) c.new-map.ensures.empty ∙ put_from_none c.args.rows.items

pub loop-key-preserved-in_ok-_before : goal.loop-key-preserved-in_ok-_before
loop-key-preserved-in_ok-_before c =
    put_next c.args.rows.items c.loop-key.rest.items c.pop.new.self.items c.loop-key.map.entries c.insert.new.self.entries c.in-Some.key c.in-Some.row c.loop-key.invariant c.in-Some.ensures.items c.in_ok-_before.ensures.entries

pub loop-key-preserved : goal.loop-key-preserved
loop-key-preserved c =
    put_next c.args.rows.items c.loop-key.rest.items c.pop.new.self.items c.loop-key.map.entries c.insert.new.self.entries c.in-Some.key c.in-Some.row c.loop-key.invariant c.in-Some.ensures.items c.in_ok-_before.ensures.entries
