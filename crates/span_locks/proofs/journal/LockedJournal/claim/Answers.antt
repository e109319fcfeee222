use Rattle.span_machine.specs.declared.step.Step.TheVariants as step
use Rattle.span_machine.specs.Pieces.{machine_of}
use Rattle.span_parts.proofs.Passing.{passed_claim}
use Rattle.span_parts.proofs.Wholes.{no_text}
use Rattle.span_locks.specs.Held.{IsUnderstoodAs}
use Rattle.span_locks.proofs.Held.{keeper_goes}
use Rattle.span_locks.proofs.Refusing.{claimed_gap, scan_unscanned}
use Rattle.span_locks.proofs.journal.LockedJournal.claim.Goals as goal

pub invariant_of-self : goal.invariant_of-self
invariant_of-self g c =
    let schema = g.J.Naming.schema in
    let here = c.self.inside in
    let board = c.args.board.now in
    let k = c.claim.new.journal in
    keeper_goes schema board.schema g.J.Naming.table here.badge.table_id here.badge.views here.journal board.schema_is c.self.invariant k
    (passed_claim (IsUnderstoodAs schema) board.schema (machine_of here.journal) c.self.invariant.asked c.claim.result no_text (step.Scan c.args.query c.args.leaf c.args.number c.args.interval) tt (machine_of k) c.claim.ensures.same c.claim.ensures.refused)
    c.claim.ensures.whole

pub returns-clause-gap : goal.returns-clause-gap
returns-clause-gap g c =
    let here = c.self.inside in
    let board = c.args.board.now in
    claimed_gap g.J.Naming.schema board.schema g.J.Naming.table here.badge.table_id here.badge.views here.journal board.schema_is c.self.invariant c.args.self.now c.self.view_is c.args.query c.args.leaf c.args.number c.args.interval c.claim.result c.claim.ensures.gap

pub returns-clause-refused : goal.returns-clause-refused
returns-clause-refused g c =
    let schema = g.J.Naming.schema in
    let here = c.self.inside in
    let board = c.args.board.now in
    scan_unscanned schema board.schema g.J.Naming.table here.badge.table_id here.badge.views here.journal board.schema_is c.self.invariant c.args.query c.args.leaf c.args.number c.args.interval c.claim.result (machine_of c.claim.new.journal) c.claim.ensures.refused
