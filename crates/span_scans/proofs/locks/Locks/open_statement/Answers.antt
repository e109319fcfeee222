use Rattle.std.proofs.Common.{ℕ, List, Ok, ◌∙◌, sym, subst}
use Rattle.span_schema.specs.declared.table.Table.{Table}
use Rattle.span_params.specs.declared.params.Parameter.{Parameter}
use Rattle.span_query.specs.declared.query.Statement.{Statement}
use Rattle.span_planner.specs.Plannable.{IsPlannable}
use Rattle.span_binder.specs.Understands.{Understands}
use Rattle.span_openqueries.specs.Planned.{IsPlanned}
use Rattle.span_locks.proofs.Refusing.{copies_same, result_unopened}
use Rattle.span_scans.proofs.locks.Locks.open_statement.Goals as goal

pub planned_query-requires : goal.planned_query-requires
planned_query-requires g c =
    let made = c.in_ok-statement in
    subst (λ (s : List Table). IsPlannable s made.statement) (sym c.args.self.now.board.schema_is)
    (subst (IsPlannable g.J.Naming.schema) (sym made.ensures.0) c.requires.plannable)

pub open-requires-clause-understood : goal.open-requires-clause-understood
open-requires-clause-understood g c =
    let schema = g.J.Naming.schema in
    let a = c.args in
    let made = c.in_ok-statement in
    let query = c.in_ok-query.query in
    let of = c.in_ok-query.ensures.same in
    let same = copies_same c.copy_question-copies.result a.text.now made.text a.params.now made.params c.copy_question-copies.ensures.copies made.ensures.1 in
    subst (λ (t : List ℕ). Understands schema t query.params (Ok query.statement)) (sym (of.0 ∙ same.0))
    (subst (λ (ps : List Parameter). Understands schema a.text.now ps (Ok query.statement)) (sym (of.1 ∙ same.1))
    (subst (λ (q : Statement). Understands schema a.text.now a.params.now (Ok q)) (sym (of.2 ∙ made.ensures.0)) c.requires.understood))

pub open-requires-clause-planned : goal.open-requires-clause-planned
open-requires-clause-planned g c = subst (λ (s : List Table). IsPlanned s c.in_ok-query.query) c.args.self.now.board.schema_is c.in_ok-query.ensures.planned

pub returns-clause-refused : goal.returns-clause-refused
returns-clause-refused g c =
    let schema = g.J.Naming.schema in
    let a = c.args in
    let made = c.in_ok-statement in
    let query = c.in_ok-query.query in
    let of = c.in_ok-query.ensures.same in
    let same = copies_same c.copy_question-copies.result a.text.now made.text a.params.now made.params c.copy_question-copies.ensures.copies made.ensures.1 in
    let understood = subst (λ (q : Statement). Understands schema a.text.now a.params.now (Ok q)) (sym (of.2 ∙ made.ensures.0)) c.requires.understood in
    result_unopened schema _ query.statement a.text.now query.text a.params.now query.params a.bound a.interval (of.0 ∙ same.0) (of.1 ∙ same.1) understood c.open.result c.open.ensures.refused
