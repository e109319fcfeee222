use Rattle.std.proofs.Common.{◌≡◌, ◌∙◌, ◌-◌, sym, length, rules, true, List, Some}
use Rattle.std.specs.Prelude.{slice_get}
use Rattle.span_sorting.specs.declared.placed.PlacedRow.{PlacedRow}
use Rattle.span_sorting.specs.PlacesInOrder.{placed_before}
use Rattle.span_sorting.proofs.FirstRows.{put_beyond}
use Rattle.span_sorting.proofs.Placing.{placed_ranked}
use Rattle.span_sorting.proofs.first_places.is_past_last.Goals as goal

pub returns-then-rows-count : goal.returns-then-rows-count
returns-then-rows-count c = λ before.
    let keys = c.args.keys.now in
    let rows : List PlacedRow = c.args.rows.now in
    let last : PlacedRow = c.in-Some.last.now in
    let count : c.args.count ≡ length rows = search rules in
    let found : slice_get rows (length rows - 1) ≡ Some last = sym c.in-Some.ensures.value in
    let after : placed_before keys last c.args.row.now ≡ true = sym c.is_before.ensures ∙ before in
    put_beyond (placed_before keys) (placed_ranked keys) c.args.count rows last c.args.row.now count found c.requires.order after
