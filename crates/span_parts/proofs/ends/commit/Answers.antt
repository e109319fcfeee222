use Rattle.std.proofs.Common.{Option, subst}
use Rattle.std.specs.Prelude.{ℕ}
use Rattle.span_machine.specs.Machine.{IsAnswer}
use Rattle.span_machine.specs.Pieces.{machine_of}
use Rattle.span_parts.specs.Replies.{decision_reply}
use Rattle.span_parts.proofs.Passing.{decided, committed_by, uncommitted, never_aborted}
use Rattle.span_parts.proofs.ends.commit.Goals as goal

pub returns-in-Ok-Some-clause-committed : goal.returns-in-Ok-Some-clause-committed
returns-in-Ok-Some-clause-committed c =
    let a = c.args in
    let m = machine_of a.journal.now in
    let n = machine_of c.decide.new.journal in
    committed_by a.schema.now m a.owner a.txn a.interval c.in-Ok-Some.timestamp n
    (subst (λ (o : Option ℕ). IsAnswer (decided a.schema.now m a.owner a.txn a.interval) (decision_reply o) n) c.in-Ok-Some.field-0-is c.in-Ok-Some.ensures.step)

pub unreachable-requires : goal.unreachable-requires
unreachable-requires c =
    let a = c.args in
    let m = machine_of a.journal.now in
    let n = machine_of c.decide.new.journal in
    never_aborted a.schema.now m a.owner a.txn a.interval n
    (subst (λ (o : Option ℕ). IsAnswer (decided a.schema.now m a.owner a.txn a.interval) (decision_reply o) n) c.in-Ok-None.field-0-is c.in-Ok-None.ensures.step)

pub returns-in-Err-clause-committed : goal.returns-in-Err-clause-committed
returns-in-Err-clause-committed c =
    let a = c.args in
    uncommitted a.schema.now (machine_of a.journal.now) a.owner a.txn a.interval c.in-Err.why (machine_of c.decide.new.journal) c.in-Err.ensures.step

pub returns-in-Ok-Some-clause-reply : goal.returns-in-Ok-Some-clause-reply
returns-in-Ok-Some-clause-reply c =
    let a = c.args in
    let m = machine_of a.journal.now in
    let n = machine_of c.decide.new.journal in
    let is = subst (λ (o : Option ℕ). IsAnswer (decided a.schema.now m a.owner a.txn a.interval) (decision_reply o) n) c.in-Ok-Some.field-0-is c.in-Ok-Some.ensures.step in
    is.0
