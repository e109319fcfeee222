use Rattle.std.proofs.Common.{refl}
use Rattle.span_board.proofs.Owners.{prefix_self}
use Rattle.span_scans.proofs.locks.Locks.finish_scanned.Goals as goal

pub returns-in-Err-clause-seen : goal.returns-in-Err-clause-seen
returns-in-Err-clause-seen g c = (refl, refl, prefix_self c.args.me.now.seen)
