use Rattle.std.proofs.Common.{rules, ◌∙◌, [], ℕ, List, Some, ap, map, refl, sym}
use Rattle.span_query.specs.Rows.{Row}
use Rattle.span_query.specs.Sorting.{sorted}
use Rattle.span_query.specs.Groups.{columns_at}
use Rattle.span_rows.specs.LentRows.{lent_rows}
use Rattle.span_sorting.specs.Columns.{AreColumns}
use Rattle.span_sorting.proofs.RowOrder.{sorted_by_none}
use Rattle.span_sorting.proofs.TakenColumns.{project_columns}
use Rattle.span_algebra.proofs.select.columns_at_all.Goals as goal

pub returns : goal.returns
returns c =
    let columns : List ℕ = c.in-Some.columns.items in
    let are : AreColumns c.args.outputs.now columns = search rules in
    let lent : List Row = lent_rows c.in_ok-lent.lent.items in
    project_columns c.args.outputs.now columns c.args.rows.now are
    ∙ ap (λ (l : List Row). Some (map (columns_at columns) l)) (sym c.in_ok-lent.ensures ∙ sym (sorted_by_none [] lent refl))
    ∙ ap (λ (cs : List ℕ). Some (map (columns_at cs) (sorted [] lent))) (sym c.as_slice.ensures.value)
    ∙ ap (λ (l : List Row). Some l) (sym c.in_ok-list.ensures)
