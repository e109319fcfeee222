use Rattle.std.proofs.Common.{rules, ◌≡◌, ◌∙◌, List, Some, ap, length, sym}
use Rattle.std.specs.List.{AllZip}
use Rattle.rayon.specs.Lists.{filter_by_mask}
use Rattle.span_query.specs.Rows.{Row, filter_rows}
use Rattle.span_rows.specs.LentRows.{lent_rows}
use Rattle.span_algebra.proofs.Marks.{IsMark, marked, marks_length}
use Rattle.span_algebra.proofs.kept.lend_met_in_threads.Goals as goal

pub marked_rows-requires : goal.marked_rows-requires
marked_rows-requires g c =
    let condition = c.args.condition.now in
    let lent = c.in_ok-lent.lent.items in
    let marks = c.in_ok-marks.marks.items in
    let all : AllZip (IsMark condition) (lent_rows lent) marks = search rules in
    let same : length marks ≡ length lent = marks_length condition lent marks all in
    search (rules, same)

pub returns : goal.returns
returns g c =
    let condition = c.args.condition.now in
    let lent = c.in_ok-lent.lent.items in
    let marks = c.in_ok-marks.marks.items in
    let all : AllZip (IsMark condition) (lent_rows lent) marks = search rules in
    let kept : lent_rows c.in_ok-marked_rows.field-0.items ≡ filter_by_mask (lent_rows lent) marks = search rules in
    ap (filter_rows condition) (sym c.in_ok-lent.ensures)
    ∙ marked condition (lent_rows lent) marks all
    ∙ ap (λ (l : List Row). Some l) (sym kept)
