use Rattle.std.proofs.Common.{ℕ, Option, subst}
use Rattle.std.proofs.lemmas.Option.{slice_get_within}
use Rattle.span_machine.specs.Machine.{decide}
use Rattle.span_machine.specs.declared.step.Reply.TheVariants as reply
use Rattle.span_machine.specs.declared.step.Verdict.TheVariants as verdict
use Rattle.span_parts.specs.Replies.{decision_reply}
use Rattle.span_locks.specs.Replies.{RepliesOnce}
use Rattle.span_session.proofs.db.Db.abort_begun.Goals as goal

pub forget-requires : goal.forget-requires
forget-requires g c = slice_get_within c.args.me.now.begun c.args.place c.requires.begun c.requires.there

pub returns-in-Ok-clause-decided : goal.returns-in-Ok-clause-decided
returns-in-Ok-clause-decided g c = record { place = c.args.place; at = c.requires; left = c.forget.ensures }

pub returns-in-Ok-clause-reply : goal.returns-in-Ok-clause-reply
returns-in-Ok-clause-reply g c =
    let a = c.args in
    let schema = g.J.Naming.schema in
    let none = subst (λ (o : Option ℕ). RepliesOnce schema (λ m. decide schema m c.owner.result a.number verdict.Abort a.interval) (decision_reply o)) c.in-Ok.ensures.aborted c.in-Ok.ensures.reply in
    subst (λ (o : ℕ). RepliesOnce schema (λ m. decide schema m o a.number verdict.Abort a.interval) reply.Aborted) c.owner.ensures none

pub returns-in-Err-clause-reply : goal.returns-in-Err-clause-reply
returns-in-Err-clause-reply g c =
    let a = c.args in
    let schema = g.J.Naming.schema in
    subst (λ (o : ℕ). RepliesOnce schema (λ m. decide schema m o a.number verdict.Abort a.interval) (reply.Refused c.in-Err.why)) c.owner.ensures c.in-Err.ensures.reply
