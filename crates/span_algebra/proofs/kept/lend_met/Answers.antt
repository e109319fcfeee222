use Rattle.std.proofs.Common.{rules, ◌<◌, length, Err, List}
use Rattle.span_query.specs.Rows.{Row, filter_rows}
use Rattle.span_conditions.specs.Answers.{Gives}
use Rattle.span_rows.specs.Filtering.{filter_row}
use Rattle.span_rows.specs.LentRows.{lent_rows}
use Rattle.span_rows.proofs.Gathering.{added_at, adding_fails_at}
use Rattle.span_algebra.proofs.kept.lend_met.Goals as goal

pub returns-in_err-lend_if_met : goal.returns-in_err-lend_if_met
returns-in_err-lend_if_met c =
    let e = c.args.condition.now in
    let rows : List Row = c.args.rows.now in
    let why = c.in_err-lend_if_met.field-0.0 in
    let within : c.loop-at.at < length rows = search rules in
    let answer : Gives (Err why) (filter_rows e rows) =
    adding_fails_at why (filter_row e) rows c.loop-at.at c.row.result.now within c.row.ensures (lent_rows c.loop-at.kept.items) (lent_rows c.lend_if_met.new.kept.items) c.loop-at.invariant c.in_err-lend_if_met.ensures in
    search (rules, answer)

pub loop-at-preserved : goal.loop-at-preserved
loop-at-preserved c =
    let rows : List Row = c.args.rows.now in
    let within : c.loop-at.at < length rows = search rules in
    added_at (filter_row c.args.condition.now) rows c.loop-at.at c.row.result.now within c.row.ensures (lent_rows c.loop-at.kept.items) _ c.loop-at.invariant c.in_ok-lend_if_met.ensures
