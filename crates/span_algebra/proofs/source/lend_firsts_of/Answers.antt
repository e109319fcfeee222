use Rattle.std.proofs.Common.{rules, ◌≡◌, ◌<◌, ◌≤◌, ◌∙◌, List, length, get_or, take, ap, sym, refl}
use Rattle.span_query.specs.Rows.{Row}
use Rattle.span_rows.specs.Columns.{distinct_at}
use Rattle.span_rows.specs.LentRows.{lent_rows}
use Rattle.span_collected.specs.Parts.{all_rows}
use Rattle.span_groups.proofs.MergedGroups.{distinct_at-both}
use Rattle.span_collected.proofs.Parting.{rows_more, rows_all}
use Rattle.span_algebra.proofs.source.lend_firsts_of.Goals as goal

pub loop-part-preserved : goal.loop-part-preserved
loop-part-preserved c =
    let columns = c.args.columns.now in
    let parts = c.args.parts.now in
    let i = c.loop-part.part-index in
    let x = c.part-item.result in
    let within : i < length parts = search rules in
    let is : x ≡ get_or parts i x = search rules in
    let old : List Row = lent_rows c.loop-part.rows.items in
    c.in_ok-lend_firsts.ensures
    ∙ distinct_at-both columns old (all_rows (take i parts)) x.now x.now c.loop-part.invariant refl
    ∙ ap (distinct_at columns) (sym (rows_more parts i x within is))

pub returns : goal.returns
returns c =
    let past : length c.args.parts.now ≤ c.loop-part.part-index = search rules in
    c.loop-part.invariant ∙ ap (distinct_at c.args.columns.now) (rows_all c.args.parts.now c.loop-part.part-index past)
