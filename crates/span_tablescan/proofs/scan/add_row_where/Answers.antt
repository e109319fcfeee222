use Rattle.std.proofs.Common.{◌∙◌, ◌∷◌, ◌++◌, [], Bool, true, false, Result, Ok, Err, ap, subst}
use Rattle.span_expr.specs.declared.cell.Failure.{Failure}
use Rattle.span_query.specs.Rows.{Row, holds}
use Rattle.span_conditions.specs.Answers.{Gives}
use Rattle.span_tablescan.proofs.ScannedRows.{passed, not_passed, failed, condition_gives}
use Rattle.span_tablescan.proofs.scan.add_row_where.Goals as goal

pub returns-in_ok-push_values_of-in-Ok-true-clause-ok : goal.returns-in_ok-push_values_of-in-Ok-true-clause-ok
returns-in_ok-push_values_of-in-Ok-true-clause-ok c = λ w of.
    let schema = c.args.schema.now in
    let reader = c.args.reader.now in
    let values : Row = c.read.new.row.items in
    let P : Result Bool Failure → Type 0 = λ found. Gives found (holds c.args.condition.now c.as_slice.result.now) in
    let Q : Row → Type 0 = λ row. Gives (Ok true) (holds c.args.condition.now row) in
    let gives : Gives (Ok true) (holds c.args.condition.now values) = subst Q c.as_slice.ensures.value (subst P (c.in-Ok-true.is ∙ ap (λ (b : Bool). Ok b) c.in-Ok-true.field-0-test) c.is_met.ensures.holds) in
    passed schema reader.table reader.mask w c.args.entry.now.key.now c.args.entry.now.row.now c.args.rows.now c.push_values_of.new.self
    (condition_gives schema reader.table reader.mask w c.args.condition.now c.args.entry.now.key.now c.args.entry.now.row.now values (Ok true) of c.in_ok-read.ensures gives)
    (record { of = λ t typed own is cells. c.in_ok-push_values_of-in-Ok-true.ensures.ok ∙ ap (λ (p : Row). c.args.rows.now ++ p ∷ []) (c.in_ok-read.ensures.are t typed own is cells) })

pub returns-in-Ok-false-clause-ok : goal.returns-in-Ok-false-clause-ok
returns-in-Ok-false-clause-ok c = λ w of.
    let schema = c.args.schema.now in
    let reader = c.args.reader.now in
    let values : Row = c.read.new.row.items in
    let P : Result Bool Failure → Type 0 = λ found. Gives found (holds c.args.condition.now c.as_slice.result.now) in
    let Q : Row → Type 0 = λ row. Gives (Ok false) (holds c.args.condition.now row) in
    let gives : Gives (Ok false) (holds c.args.condition.now values) = subst Q c.as_slice.ensures.value (subst P (c.in-Ok-false.is ∙ ap (λ (b : Bool). Ok b) c.in-Ok-false.field-0-test) c.is_met.ensures.holds) in
    not_passed schema reader.table reader.mask w c.args.entry.now.key.now c.args.entry.now.row.now c.args.rows.now
    (condition_gives schema reader.table reader.mask w c.args.condition.now c.args.entry.now.key.now c.args.entry.now.row.now values (Ok false) of c.in_ok-read.ensures gives)

pub returns-in-Err-clause-ok : goal.returns-in-Err-clause-ok
returns-in-Err-clause-ok c = λ w of.
    let schema = c.args.schema.now in
    let reader = c.args.reader.now in
    let values : Row = c.read.new.row.items in
    let why : Failure = c.in-Err.failure in
    let P : Result Bool Failure → Type 0 = λ found. Gives found (holds c.args.condition.now c.as_slice.result.now) in
    let Q : Row → Type 0 = λ row. Gives (Err why) (holds c.args.condition.now row) in
    let gives : Gives (Err why) (holds c.args.condition.now values) = subst Q c.as_slice.ensures.value (subst P c.in-Err.is c.is_met.ensures.holds) in
    failed schema reader.table reader.mask w c.args.entry.now.key.now c.args.entry.now.row.now why c.args.rows.now c.args.rows.now
    (condition_gives schema reader.table reader.mask w c.args.condition.now c.args.entry.now.key.now c.args.entry.now.row.now values (Err why) of c.in_ok-read.ensures gives)
