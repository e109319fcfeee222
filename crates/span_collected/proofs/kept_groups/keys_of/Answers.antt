use Rattle.std.proofs.Common.{rules, ◌≡◌, ◌∙◌, ap, ◌<◌, length, get_or, List}
use Rattle.std.proofs.lemmas.List.{take_all}
use Rattle.indexmap.specs.IndexSet.{insert_key}
use Rattle.span_query.specs.Rows.{Row}
use Rattle.span_query.specs.Groups.{are_equal, columns_at}
use Rattle.span_rows.specs.Columns.{distinct_at}
use Rattle.span_collected.proofs.FirstRows.{seen_more}
use Rattle.span_collected.proofs.kept_groups.keys_of.Goals as goal

pub loop-at-preserved : goal.loop-at-preserved
loop-at-preserved c =
    let columns = c.args.columns.now in
    let rows : List Row = c.args.rows.now in
    let i = c.loop-at.at in
    let row : Row = c.row.result.now in
    let seen : List Row = c.loop-at.index.keys in
    let new : List Row = c.insert.new.self.keys in
    let within : i < length rows = search rules in
    let is : row ≡ get_or rows i row = c.row.ensures in
    let inserted : new ≡ insert_key are_equal seen (columns_at columns row) = search rules in
    seen_more columns rows i row within is seen new c.loop-at.invariant inserted

pub returns : goal.returns
returns c = c.loop-at.invariant ∙ ap (distinct_at c.args.columns.now) (take_all c.loop-at.at c.args.rows.now (search rules))
