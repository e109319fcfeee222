use Rattle.std.proofs.Common.{rules, ◌≡◌, ◌<◌, true, false, length, List}
use denote.Ref.{Bor}
use Rattle.span_query.specs.Rows.{Row}
use Rattle.span_query.specs.Sorting.{comes_before}
use Rattle.span_rows.specs.LentRows.{lent_rows}
use Rattle.span_rows.proofs.LentRows.{lent_count, lent_get, passed_one, stopped_here}
use Rattle.span_sorting.proofs.first_rows.place_in_order.Goals as goal

pub returns-then-not-is_before-clause-place : goal.returns-then-not-is_before-clause-place
returns-then-not-is_before-clause-place c =
    let rows : List (Bor Row) = c.args.rows.now in
    let x : Bor Row = c.index-rows-at.result in
    let within : c.loop-at.at < length rows = search rules in
    let inside : c.loop-at.at < length (lent_rows rows) = search (rules, lent_count rows, within) in
    let after : comes_before c.args.keys.now x.now c.args.row.now ≡ false = search rules in
    stopped_here (comes_before c.args.keys.now) c.args.row.now (lent_rows rows) c.loop-at.at x.now inside (lent_get rows c.loop-at.at x within c.index-rows-at.is) c.loop-at.invariant after

pub loop-at-preserved : goal.loop-at-preserved
loop-at-preserved c =
    let rows : List (Bor Row) = c.args.rows.now in
    let x : Bor Row = c.index-rows-at.result in
    let within : c.loop-at.at < length rows = search rules in
    let inside : c.loop-at.at < length (lent_rows rows) = search (rules, lent_count rows, within) in
    let before : comes_before c.args.keys.now x.now c.args.row.now ≡ true = search rules in
    passed_one (comes_before c.args.keys.now) c.args.row.now (lent_rows rows) c.loop-at.at x.now inside (lent_get rows c.loop-at.at x within c.index-rows-at.is) c.loop-at.invariant before
