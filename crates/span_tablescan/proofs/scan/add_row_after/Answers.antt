use Rattle.std.proofs.Common.{◌∙◌, ℕ, Bool, true, false, List, Result, Ok, Err, ap, subst}
use Rattle.span_expr.specs.declared.cell.Failure.{Failure}
use Rattle.span_query.specs.Rows.{Row, holds}
use Rattle.span_conditions.specs.Answers.{Gives}
use Rattle.span_rowreader.specs.Readers.{ArePickedOf}
use Rattle.span_tablescan.proofs.ScannedRows.{passed, not_passed, failed, condition_gives}
use Rattle.span_tablescan.proofs.scan.add_row_after.Goals as goal

pub returns-in_ok-add_row-in-Ok-true-clause-ok : goal.returns-in_ok-add_row-in-Ok-true-clause-ok
returns-in_ok-add_row-in-Ok-true-clause-ok c = λ w of.
    let schema = c.args.schema.now in
    let n : ℕ = c.args.reader.now.table in
    let columns = c.args.columns.now in
    let key : List ℕ = c.args.entry.now.key.now in
    let cells : List ℕ = c.args.entry.now.row.now in
    let values : Row = c.read.new.row.items in
    let found : Result Bool Failure = Ok true in
    let P : Result Bool Failure → Type 0 = λ r. Gives r (holds c.args.condition.now c.as_slice.result.now) in
    let Q : Row → Type 0 = λ row. Gives found (holds c.args.condition.now row) in
    let gives : Gives found (holds c.args.condition.now values) = subst Q c.as_slice.ensures.value (subst P (c.in-Ok-true.is ∙ ap (λ (b : Bool). Ok b) c.in-Ok-true.field-0-test) c.is_met.ensures.holds) in
    let read : ArePickedOf schema n columns.mask key cells values = subst (λ (m : ℕ). ArePickedOf schema m columns.mask key cells values) c.requires.same c.in_ok-read.ensures in
    let judged = condition_gives schema n columns.mask w c.args.condition.now key cells values found of read gives in
    passed schema n c.args.reader.now.mask w key cells c.args.rows.now c.add_row.new.rows judged c.in_ok-add_row-in-Ok-true.ensures

pub returns-in-Ok-false-clause-ok : goal.returns-in-Ok-false-clause-ok
returns-in-Ok-false-clause-ok c = λ w of.
    let schema = c.args.schema.now in
    let n : ℕ = c.args.reader.now.table in
    let columns = c.args.columns.now in
    let key : List ℕ = c.args.entry.now.key.now in
    let cells : List ℕ = c.args.entry.now.row.now in
    let values : Row = c.read.new.row.items in
    let found : Result Bool Failure = Ok false in
    let P : Result Bool Failure → Type 0 = λ r. Gives r (holds c.args.condition.now c.as_slice.result.now) in
    let Q : Row → Type 0 = λ row. Gives found (holds c.args.condition.now row) in
    let gives : Gives found (holds c.args.condition.now values) = subst Q c.as_slice.ensures.value (subst P (c.in-Ok-false.is ∙ ap (λ (b : Bool). Ok b) c.in-Ok-false.field-0-test) c.is_met.ensures.holds) in
    let read : ArePickedOf schema n columns.mask key cells values = subst (λ (m : ℕ). ArePickedOf schema m columns.mask key cells values) c.requires.same c.in_ok-read.ensures in
    let judged = condition_gives schema n columns.mask w c.args.condition.now key cells values found of read gives in
    not_passed schema n c.args.reader.now.mask w key cells c.args.rows.now judged

pub returns-in-Err-clause-ok : goal.returns-in-Err-clause-ok
returns-in-Err-clause-ok c = λ w of.
    let schema = c.args.schema.now in
    let n : ℕ = c.args.reader.now.table in
    let columns = c.args.columns.now in
    let key : List ℕ = c.args.entry.now.key.now in
    let cells : List ℕ = c.args.entry.now.row.now in
    let values : Row = c.read.new.row.items in
    let found : Result Bool Failure = Err c.in-Err.failure in
    let P : Result Bool Failure → Type 0 = λ r. Gives r (holds c.args.condition.now c.as_slice.result.now) in
    let Q : Row → Type 0 = λ row. Gives found (holds c.args.condition.now row) in
    let gives : Gives found (holds c.args.condition.now values) = subst Q c.as_slice.ensures.value (subst P (c.in-Err.is) c.is_met.ensures.holds) in
    let read : ArePickedOf schema n columns.mask key cells values = subst (λ (m : ℕ). ArePickedOf schema m columns.mask key cells values) c.requires.same c.in_ok-read.ensures in
    let judged = condition_gives schema n columns.mask w c.args.condition.now key cells values found of read gives in
    failed schema n c.args.reader.now.mask w key cells c.in-Err.failure c.args.rows.now c.args.rows.now judged
