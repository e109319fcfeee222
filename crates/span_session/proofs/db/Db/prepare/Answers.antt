use Rattle.std.proofs.Common.{ℕ, subst}
use Rattle.span_machine.specs.Machine.{prepare}
use Rattle.span_machine.specs.declared.step.Reply.TheVariants as reply
use Rattle.span_locks.specs.Replies.{MayReplyAt}
use Rattle.span_locks.proofs.Replying.{prepare_why_is}
use Rattle.span_session.proofs.db.Db.prepare.Goals as goal

pub returns-in-Err-clause-reply : goal.returns-in-Err-clause-reply
returns-in-Err-clause-reply g c =
    let a = c.args in
    let schema = g.J.Naming.schema in
    (0, subst (λ (o : ℕ). MayReplyAt schema a.slot (λ m. prepare schema m o a.number a.slot) (reply.Refused c.in-Err.why)) c.owner.ensures c.in-Err.ensures.reply)

pub returns-in-Err-clause-refused : goal.returns-in-Err-clause-refused
returns-in-Err-clause-refused g c = prepare_why_is g.J.Naming.schema c.args.slot c.owner.result c.args.number c.in-Err.why c.in-Err.ensures.reply
