use Rattle.span_locks.proofs.Replying.{prepare_is_refused}
use Rattle.span_session.proofs.db.Db.prepare_at.Goals as goal

pub returns : goal.returns
returns g c = prepare_is_refused g.J.Naming.schema _ c.args.owner c.args.number _ c.in-Err.why c.in-Err.ensures.reply
