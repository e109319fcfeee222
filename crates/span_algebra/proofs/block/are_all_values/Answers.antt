use Rattle.std.proofs.Common.{rules, ◌≡◌, ◌==◌, ◌<◌, ℕ, List, get_or, length, true}
use Rattle.std.specs.List.{list_all}
use Rattle.span_query.specs.Rows.{Row}
use Rattle.span_sorting.specs.Columns.{AreColumns}
use Rattle.span_algebra.proofs.AllValues.{as_they_are}
use Rattle.span_algebra.proofs.block.are_all_values.Goals as goal

pub returns : goal.returns
returns c have =
    let columns : List ℕ = c.in-Some.columns.items in
    let are : AreColumns c.args.outputs.now columns = search rules in
    let order : (i : ℕ) → i < length columns → get_or columns i 0 ≡ i = search rules in
    let wide : list_all (λ (row : Row). length row == length columns) c.args.rows.now ≡ true = search rules in
    as_they_are c.args.outputs.now columns c.args.rows.now are order wide
