use Rattle.std.proofs.Common.{sym}
use Rattle.span_locks.proofs.Held.{plan_leaf}
use Rattle.span_scans.proofs.locks.Locks.scan_place.Goals as goal

pub scan_slot-requires : goal.scan_slot-requires
scan_slot-requires g c =
    let query = c.args.query.now in
    plan_leaf g.J.Naming.schema query.text.now query.params.now query.plan.now c.args.place c.in-Some.leaf.now c.requires (sym c.in-Some.ensures)
