use Rattle.std.proofs.Common.{rules, ◌≡◌, ◌∙◌, ◌++◌, List, Option, None, ap, refl}
use Rattle.span_query.specs.Rows.{Row}
use Rattle.span_query.specs.Sorting.{comes_before, sorted}
use Rattle.span_sorting.proofs.FirstOfParts.{first_of_parts}
use Rattle.span_sorting.proofs.RowOrder.{rows_ranked}
use Rattle.span_collected.specs.KeptGroups.{grouped_rows}
use Rattle.span_collected.proofs.part_rows.PartRows.in_order.Goals as goal

pub returns : goal.returns
returns c =
    let keys = c.args.keys.now in
    let front : List Row = grouped_rows c.into_parts-groups.result.0 in
    let rows : List Row = c.into_parts-groups.result.1 in
    let ordered : List Row = c.in_ok-groups.rows in
    let same : sorted keys ordered ≡ sorted keys rows = search (rules, c.order_list-ordered.ensures, c.in_ok-groups.ensures) in
    ap (λ (groups : Option (List Row)). sorted keys (grouped_rows groups ++ ordered)) c.in_ok-groups.ensures.0
    ∙ first_of_parts (comes_before keys) (rows_ranked keys) None front front ordered rows refl same
    ∙ ap (sorted keys) c.into_parts-groups.ensures
