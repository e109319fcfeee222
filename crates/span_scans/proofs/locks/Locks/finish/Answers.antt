use Rattle.std.proofs.Common.{Result, sym, subst}
use Rattle.std.specs.Prelude.{IfOk, IfErr}
use Rattle.span_value.specs.declared.refusal.Refusal.{Refusal}
use Rattle.span_gather.specs.declared.rows.Rows.{Rows}
use Rattle.span_locks.specs.Answers.{IsAnswered}
use Rattle.span_locks.specs.Refusing.{IsUnfinished}
use Rattle.span_locks.proofs.Held.{rows_answer}
use Rattle.span_locks.proofs.Refusing.{result_unfinished}
use Rattle.span_scans.proofs.locks.Locks.finish.Goals as goal

pub returns-in-Ok-clause-rows : goal.returns-in-Ok-clause-rows
returns-in-Ok-clause-rows g c =
    let a = c.args in
    let seen = c.take.new.me.seen in
    subst (λ (r : Result Rows Refusal). IfOk r (λ rows. IsAnswered g.J.Naming.schema a.text.now a.params.now seen a.opened.s rows.rows)) (sym c.give_after.ensures)
    (rows_answer g.J.Naming.schema a.text.now a.params.now a.opened.s seen c.in-Ok.taken c.rows_of-rows.result c.rows_of-rows.ensures.same c.rows_of-rows.ensures.rows c.in-Ok.ensures.meant)

pub returns-in-Ok-clause-refused : goal.returns-in-Ok-clause-refused
returns-in-Ok-clause-refused g c =
    let a = c.args in
    let seen = c.take.new.me.seen in
    subst (λ (r : Result Rows Refusal). IfErr r (IsUnfinished g.J.Naming.schema a.text.now a.params.now seen a.opened.s)) (sym c.give_after.ensures)
    (result_unfinished g.J.Naming.schema a.text.now a.params.now a.opened.s seen c.in-Ok.taken c.rows_of-rows.result c.rows_of-rows.ensures.refused c.in-Ok.ensures.fault)
