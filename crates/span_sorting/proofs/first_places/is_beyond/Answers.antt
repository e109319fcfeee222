use Rattle.std.proofs.Common.{◌≡◌, ◌<◌, ◌-◌, sym, length, rules, List, Some}
use Rattle.std.specs.Prelude.{slice_get}
use Rattle.span_sorting.specs.declared.placed.PlacedRow.{PlacedRow}
use Rattle.span_sorting.proofs.first_places.is_beyond.Goals as goal

pub returns-then-rows-count : goal.returns-then-rows-count
returns-then-rows-count c = λ below.
    let rows : List PlacedRow = c.args.rows.now in
    let last : PlacedRow = c.in-Some.last.now in
    let count : c.args.count ≡ length rows = search rules in
    let found : slice_get rows (length rows - 1) ≡ Some last = sym c.in-Some.ensures.value in
    let less : last.coded.first < c.args.code = search (rules, below) in
    (count, last, found, less)
