use Rattle.std.proofs.Common.{rules, ◌≡◌, ◌<◌, get_or, length, false}
use Rattle.span_algebra.proofs.Marks.{mask_step}
use Rattle.span_algebra.proofs.kept.marked_rows.Goals as goal

pub loop-at-preserved : goal.loop-at-preserved
loop-at-preserved c =
    let rows = c.args.rows.now in
    let marks = c.args.marks.now in
    let row = c.index-rows-at.result in
    let below : c.loop-at.at < length rows = search rules in
    let met = get_or marks c.loop-at.at false in
    let is_row : row ≡ get_or rows c.loop-at.at row = search rules in
    let is_met : met ≡ get_or marks c.loop-at.at met = search rules in
    mask_step rows marks c.loop-at.at row met below c.requires is_row is_met _ _ _ c.loop-at.invariant c.in_ok-lend_if.ensures
