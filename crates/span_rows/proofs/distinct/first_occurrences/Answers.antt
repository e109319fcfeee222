use Rattle.std.proofs.Common.{rules, ◌≡◌, ◌∙◌, ◌<◌, ap, length, take, List}
use Rattle.indexmap.specs.IndexSet.{insert_key}
use Rattle.span_query.specs.Rows.{Row}
use Rattle.span_query.specs.Groups.{are_equal, distinct}
use Rattle.span_rows.proofs.Firsts.{distinct-inserted}
use Rattle.span_rows.proofs.Gathering.{taken_more}
use Rattle.span_rows.proofs.distinct.first_occurrences.Goals as goal

pub loop-at-preserved : goal.loop-at-preserved
loop-at-preserved c =
    let rows : List Row = c.args.rows.now in
    let row : Row = c.row.result.now in
    let within : c.loop-at.at < length rows = search rules in
    let inserted : c.insert.new.self.keys ≡ insert_key are_equal c.loop-at.seen.keys row = search rules in
    distinct-inserted c.loop-at.seen.keys c.insert.new.self.keys (take c.loop-at.at rows) row c.loop-at.invariant inserted
    ∙ ap (λ (l : List Row). distinct l) (taken_more rows c.loop-at.at row within c.row.ensures)
