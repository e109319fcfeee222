use Rattle.std.proofs.Common.{rules, ◌≡◌, ◌<◌, true, false, length, List}
use Rattle.span_rows.proofs.LentRows.{passed_one, stopped_here}
use Rattle.span_sorting.specs.declared.placed.PlacedRow.{PlacedRow}
use Rattle.span_sorting.specs.PlacesInOrder.{placed_before}
use Rattle.span_sorting.proofs.first_places.place_in_order.Goals as goal

pub returns-then-not-is_before-clause-place : goal.returns-then-not-is_before-clause-place
returns-then-not-is_before-clause-place c =
    let rows : List PlacedRow = c.args.rows.now in
    let x : PlacedRow = c.index-rows-at.result in
    let within : c.loop-at.at < length rows = search rules in
    let after : placed_before c.args.keys.now x c.args.row.now ≡ false = search rules in
    stopped_here (placed_before c.args.keys.now) c.args.row.now rows c.loop-at.at x within c.index-rows-at.is c.loop-at.invariant after

pub loop-at-preserved : goal.loop-at-preserved
loop-at-preserved c =
    let rows : List PlacedRow = c.args.rows.now in
    let x : PlacedRow = c.index-rows-at.result in
    let within : c.loop-at.at < length rows = search rules in
    let before : placed_before c.args.keys.now x c.args.row.now ≡ true = search rules in
    passed_one (placed_before c.args.keys.now) c.args.row.now rows c.loop-at.at x within c.index-rows-at.is c.loop-at.invariant before
