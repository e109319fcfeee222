use Rattle.std.proofs.Common.{refl, inl}
use Rattle.span_board.proofs.Owners.{prefix_self}
use Rattle.span_locks.proofs.Refusing.{ended_refused}
use Rattle.span_session.proofs.db.Db.query.Goals as goal

pub returns-in-Err-clause-seen : goal.returns-in-Err-clause-seen
returns-in-Err-clause-seen g c = (refl, refl, prefix_self c.args.me.now.seen)

pub returns-in-Err-clause-refused : goal.returns-in-Err-clause-refused
returns-in-Err-clause-refused g c = (c.now-read.result, c.now-read.ensures, inl c.in-Err.ensures.refused)

pub returns-in-Ok-clause-refused : goal.returns-in-Ok-clause-refused
returns-in-Ok-clause-refused g c =
    let a = c.args in
    ended_refused g.J.Naming.schema a.text.now a.params.now a.bound c.now-read.result c.end_query.new.me.seen c.in-Ok.opened.s c.in-Ok.ensures.s _ c.now-read.ensures c.end_query.result c.end_query.ensures.refused
