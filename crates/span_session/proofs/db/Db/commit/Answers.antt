use Rattle.std.proofs.Common.{List, inr, subst}
use Rattle.span_mutate.specs.declared.mutation.CheckedMutation.{CheckedMutation}
use Rattle.span_locks.specs.Replies.{IsUndecided}
use Rattle.span_locks.proofs.Replying.{uncommitted_is}
use Rattle.span_session.proofs.db.Db.commit.Goals as goal

-- what was begun is the copy of what was handed in
pub returns-in-Err-decide_all-clause-why : goal.returns-in-Err-decide_all-clause-why
returns-in-Err-decide_all-clause-why g c =
    let a = c.args in
    inr (c.in-Ok-begin_as.number, subst (λ (ms : List CheckedMutation). IsUndecided g.J.Naming.schema a.me.now.owner c.in-Ok-begin_as.number ms (λ i. g.C.Clock.may_give a.clock.now i) c.in-Err-decide_all.why) c.in-Ok.ensures c.in-Err-decide_all.ensures.why)

pub returns-in-Err-decide_all-clause-refused : goal.returns-in-Err-decide_all-clause-refused
returns-in-Err-decide_all-clause-refused g c =
    let a = c.args in
    uncommitted_is g.J.Naming.schema a.me.now.owner a.transaction (λ i. g.C.Clock.may_give a.clock.now i) c.in-Err-decide_all.why
    (inr (c.in-Ok-begin_as.number, subst (λ (ms : List CheckedMutation). IsUndecided g.J.Naming.schema a.me.now.owner c.in-Ok-begin_as.number ms (λ i. g.C.Clock.may_give a.clock.now i) c.in-Err-decide_all.why) c.in-Ok.ensures c.in-Err-decide_all.ensures.why))
