use Rattle.std.proofs.Common.{inl}
use Rattle.span_machine.specs.declared.step.Step.TheVariants as step
use Rattle.span_machine.specs.Pieces.{machine_of}
use Rattle.span_parts.proofs.Passing.{passed}
use Rattle.span_parts.proofs.Wholes.{no_text}
use Rattle.span_locks.specs.Held.{IsUnderstoodAs}
use Rattle.span_locks.proofs.Held.{keeper_goes}
use Rattle.span_locks.proofs.journal.LockedJournal.advance.Goals as goal

pub invariant_of-self : goal.invariant_of-self
invariant_of-self g c =
    let schema = g.J.Naming.schema in
    let here = c.self.inside in
    let board = c.args.board.now in
    let k = c.advance.new.journal in
    keeper_goes schema board.schema g.J.Naming.table here.badge.table_id here.badge.views here.journal board.schema_is c.self.invariant k
    (passed (IsUnderstoodAs schema) board.schema (machine_of here.journal) c.self.invariant.asked no_text (step.Advance c.args.number c.args.interval) tt _ (machine_of k) (inl c.advance.ensures.step))
    c.advance.ensures.whole
