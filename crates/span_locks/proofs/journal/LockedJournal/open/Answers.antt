use Rattle.std.proofs.Common.{List, sym, subst}
use Rattle.span_schema.specs.declared.table.Table.{Table}
use Rattle.span_machine.specs.Pieces.{machine_of}
use Rattle.span_openqueries.specs.Planned.{IsPlanned}
use Rattle.span_parts.specs.Replies.{as_reply, opened_reply}
use Rattle.span_parts.proofs.Passing.{passed_opened, opened_at}
use Rattle.span_locks.specs.Held.{IsUnderstoodAs}
use Rattle.span_locks.proofs.Held.{keeper_goes}
use Rattle.span_locks.proofs.Refusing.{open_refused, open_replies}
use Rattle.span_locks.proofs.journal.LockedJournal.open.Goals as goal

pub open-requires : goal.open-requires
open-requires g c = subst (λ (s : List Table). IsPlanned s c.args.query) (sym c.args.board.now.schema_is) c.requires.planned

pub invariant_of-self : goal.invariant_of-self
invariant_of-self g c =
    let schema = g.J.Naming.schema in
    let here = c.self.inside in
    let board = c.args.board.now in
    let k = c.open.new.journal in
    keeper_goes schema board.schema g.J.Naming.table here.badge.table_id here.badge.views here.journal board.schema_is c.self.invariant k
    (passed_opened (IsUnderstoodAs schema) board.schema (machine_of here.journal) c.self.invariant.asked c.args.query.statement c.args.query.text c.args.query.params c.args.bound c.args.interval c.requires.understood _ (machine_of k) c.open.ensures.step)
    c.open.ensures.whole

pub returns-clause-reply : goal.returns-clause-reply
returns-clause-reply g c =
    let schema = g.J.Naming.schema in
    let here = c.self.inside in
    let board = c.args.board.now in
    open_replies schema board.schema g.J.Naming.table here.badge.table_id here.badge.views here.journal board.schema_is c.self.invariant c.args.self.now c.self.view_is c.args.query.statement c.args.query.text c.args.query.params c.args.bound c.args.interval (as_reply opened_reply c.open.result) (machine_of c.open.new.journal) c.open.ensures.step

pub returns-clause-s : goal.returns-clause-s
returns-clause-s g c =
    let board = c.args.board.now in
    opened_at board.schema (machine_of c.self.inside.journal) c.args.query.statement c.args.query.text c.args.query.params c.args.bound c.args.interval c.open.result (machine_of c.open.new.journal) c.open.ensures.step

pub returns-clause-refused : goal.returns-clause-refused
returns-clause-refused g c =
    let schema = g.J.Naming.schema in
    let here = c.self.inside in
    let board = c.args.board.now in
    open_refused schema board.schema g.J.Naming.table here.badge.table_id here.badge.views here.journal board.schema_is c.self.invariant c.args.self.now c.self.view_is c.args.query.statement c.args.query.text c.args.query.params c.args.bound c.args.interval c.open.result (machine_of c.open.new.journal) c.open.ensures.step
