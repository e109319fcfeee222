use Rattle.span_locks.proofs.Replying.{cut_refusal}
use Rattle.span_session.proofs.db.Db.split_at.Goals as goal

pub returns-in-Err-clause-refused : goal.returns-in-Err-clause-refused
returns-in-Err-clause-refused g c = cut_refusal g.J.Naming.schema c.args.key.now c.in-Err.why c.in-Err.ensures.refused
