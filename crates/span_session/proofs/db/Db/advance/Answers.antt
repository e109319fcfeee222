use Rattle.span_locks.proofs.Replying.{read_floor, advance_refusal_is}
use Rattle.span_session.proofs.db.Db.advance.Goals as goal

pub returns-clause-floor : goal.returns-clause-floor
returns-clause-floor g c =
    read_floor g.J.Naming.schema c.args.number (λ i. g.C.Clock.may_give c.args.clock.now i) c.now-interval.result c.now-interval.ensures c.advance.result (_, c.advance.ensures.reply)

pub returns-clause-refused : goal.returns-clause-refused
returns-clause-refused g c = advance_refusal_is g.J.Naming.schema c.args.number c.now-interval.result c.advance.result (_, c.advance.ensures.reply)
