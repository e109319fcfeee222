use Rattle.std.proofs.Common.{inr}
use Rattle.span_locks.proofs.Replying.{decision_refusal_is}
use Rattle.span_session.proofs.db.Db.decide.Goals as goal

pub returns-in-Some-clause-reply : goal.returns-in-Some-clause-reply
returns-in-Some-clause-reply g c = inr (c.now-interval.result, c.now-interval.ensures, c.decide_begun.ensures.reply)

pub returns-in-Some-clause-refused : goal.returns-in-Some-clause-refused
returns-in-Some-clause-refused g c =
    decision_refusal_is g.J.Naming.schema c.args.me.now c.args.number c.args.verdict (λ i. g.C.Clock.may_give c.args.clock.now i) c.decide_begun.result
    (inr (c.now-interval.result, c.now-interval.ensures, c.decide_begun.ensures.reply))
