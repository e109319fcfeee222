use Rattle.std.proofs.Common.{ℕ, subst, inl}
use Rattle.span_locks.specs.Replies.{IsPrepareRefused}
use Rattle.span_locks.proofs.Replying.{undecided_by}
use Rattle.span_session.proofs.db.Db.decide_all.Goals as goal

pub returns-in-Ok-clause-why : goal.returns-in-Ok-clause-why
returns-in-Ok-clause-why g c =
    let a = c.args in
    undecided_by g.J.Naming.schema _ a.me.now.owner a.number a.copy (λ i. g.C.Clock.may_give a.clock.now i) c.now-interval.result c.now-interval.ensures c.publish.result c.publish.ensures.reply

pub returns-in-Err-clause-why : goal.returns-in-Err-clause-why
returns-in-Err-clause-why g c = inl (subst (λ (o : ℕ). IsPrepareRefused g.J.Naming.schema o c.args.number c.in-Err.why) c.owner.ensures c.in-Err.ensures)
