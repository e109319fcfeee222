use Rattle.std.proofs.Common.{ℕ, subst}
use Rattle.span_machine.specs.Machine.{apply_step}
use Rattle.span_machine.specs.declared.step.Reply.TheVariants as reply
use Rattle.span_parts.specs.Replies.{as_reply}
use Rattle.span_locks.specs.Replies.{RepliesAt}
use Rattle.span_locks.proofs.Replying.{apply_refusal_is}
use Rattle.span_session.proofs.db.Db.apply.Goals as goal

pub returns-clause-reply : goal.returns-clause-reply
returns-clause-reply g c =
    let a = c.args in
    let read = c.now-interval.result in
    let is = subst (λ (o : ℕ). RepliesAt g.J.Naming.schema a.slot (λ m. apply_step m o a.number a.slot read) (as_reply (λ _. reply.Applied) c.end_at.result)) c.owner.ensures c.end_at.ensures.reply in
    (read, c.now-interval.ensures, is)

pub returns-clause-refused : goal.returns-clause-refused
returns-clause-refused g c = apply_refusal_is g.J.Naming.schema c.args.slot c.owner.result c.args.number c.now-interval.result c.end_at.result c.end_at.ensures.reply
