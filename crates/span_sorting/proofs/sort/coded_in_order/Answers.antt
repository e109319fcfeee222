use Rattle.std.proofs.Common.{◌≡◌, ◌∙◌, Some, ap, List, take, rules}
use Rattle.span_query.specs.Rows.{Row}
use Rattle.span_query.specs.Sorting.{sorted}
use Rattle.span_query.specs.Meaning.{limit_rows}
use Rattle.span_rows.specs.LentRows.{lent_rows}
use Rattle.span_sorting.specs.Codes.{uncoded}
use Rattle.span_sorting.proofs.Limits.{limit_of_first}
use Rattle.span_sorting.proofs.sort.coded_in_order.Goals as goal

pub returns-in-Some : goal.returns-in-Some
returns-in-Some c =
    let keys = c.args.keys.now in
    let whole : List Row = sorted keys (uncoded c.args.rows.rows.items) in
    let given : lent_rows c.in_ok-first.first.items ≡ take c.in-Some.count whole = search rules in
    ap (limit_rows c.args.limit) given ∙ limit_of_first c.args.limit (Some c.in-Some.count) whole c.in-Some.ensures
