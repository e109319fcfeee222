use Rattle.std.proofs.Common.{inl}
use Rattle.span_machine.specs.declared.step.Step.TheVariants as step
use Rattle.span_machine.specs.declared.step.Reply.TheVariants as reply
use Rattle.span_machine.specs.Machine.{Machine, close}
use Rattle.span_machine.specs.Pieces.{machine_of}
use Rattle.span_parts.specs.Replies.{as_reply}
use Rattle.span_parts.proofs.Passing.{passed}
use Rattle.span_parts.proofs.Wholes.{no_text}
use Rattle.span_locks.specs.Held.{IsUnderstoodAs}
use Rattle.span_locks.proofs.Held.{keeper_goes}
use Rattle.span_locks.proofs.Replying.{replies}
use Rattle.span_locks.proofs.journal.LockedJournal.close.Goals as goal

pub invariant_of-self : goal.invariant_of-self
invariant_of-self g c =
    let schema = g.J.Naming.schema in
    let here = c.self.inside in
    let board = c.args.board.now in
    let k = c.close.new.journal in
    keeper_goes schema board.schema g.J.Naming.table here.badge.table_id here.badge.views here.journal board.schema_is c.self.invariant k
    (passed (IsUnderstoodAs schema) board.schema (machine_of here.journal) c.self.invariant.asked no_text (step.Close c.args.query) tt _ (machine_of k) (inl c.close.ensures.step))
    c.close.ensures.whole

pub returns-clause-reply : goal.returns-clause-reply
returns-clause-reply g c =
    let here = c.self.inside in
    replies g.J.Naming.schema g.J.Naming.table here.badge.table_id here.badge.views here.journal c.self.invariant c.args.self.now c.self.view_is (λ (m : Machine). close m c.args.query) (as_reply (λ _. reply.Closed) c.close.result) c.close.ensures.step.0
