use Rattle.std.proofs.Common.{◌∙◌, List, ap, refl}
use Rattle.span_query.specs.Rows.{Row}
use Rattle.span_rows.specs.Columns.{distinct_at}
use Rattle.span_rows.specs.LentRows.{lent_rows}
use Rattle.span_rows.specs.RowPlaces.{rows_at}
use Rattle.span_groups.proofs.MergedGroups.{distinct_at-both}
use Rattle.span_collected.proofs.firsts.lend_firsts.Goals as goal

pub returns : goal.returns
returns c =
    let columns = c.args.columns.now in
    let old : List Row = lent_rows c.args.all.now.items in
    let rows : List Row = c.args.rows.now in
    let firsts : List Row = rows_at rows c.args.places.now in
    ap (distinct_at columns) c.in_ok-lend_places.ensures ∙ distinct_at-both columns old old firsts rows refl c.requires.values
