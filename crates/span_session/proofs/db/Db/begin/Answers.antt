use Rattle.std.proofs.Common.{◌≡◌, ◌∷◌, ◌++◌, [], List, MatchResult, subst}
use Rattle.span_mutate.specs.declared.mutation.CheckedMutation.{CheckedMutation}
use Rattle.span_machine.specs.Machine.{begin}
use Rattle.span_machine.specs.declared.step.Reply.TheVariants as reply
use Rattle.span_parts.specs.Replies.{as_reply}
use Rattle.span_locks.proofs.Replying.{may_once, begin_refusal_is}
use Rattle.span_session.proofs.db.Db.begin.Goals as goal

-- (the copy that the session keeps is the transaction)
pub returns-in-Ok-clause-kept : goal.returns-in-Ok-clause-kept
returns-in-Ok-clause-kept g c =
    let me = c.args.me.now in
    let same : c.in-Ok.copy ≡ c.args.transaction = c.in-Ok.ensures in
    subst
    (λ (ms : List CheckedMutation). MatchResult c.begin_of.result
    (λ number. c.begin_of.new.me ≡ record me { begun = me.begun ++ (record { number = number; mutations = ms }) ∷ [] })
    (λ why. c.begin_of.new.me ≡ me))
    same c.begin_of.ensures.kept

pub returns-in-Ok-clause-reply : goal.returns-in-Ok-clause-reply
returns-in-Ok-clause-reply g c =
    let me = c.args.me.now in
    may_once g.J.Naming.schema _ (λ m. begin m me.owner c.args.transaction) (as_reply reply.Began c.begin_of.result) c.begin_of.ensures.reply

pub returns-in-Ok-clause-refused : goal.returns-in-Ok-clause-refused
returns-in-Ok-clause-refused g c =
    let me = c.args.me.now in
    begin_refusal_is g.J.Naming.schema me.owner c.args.transaction c.begin_of.result (may_once g.J.Naming.schema _ (λ m. begin m me.owner c.args.transaction) (as_reply reply.Began c.begin_of.result) c.begin_of.ensures.reply)
