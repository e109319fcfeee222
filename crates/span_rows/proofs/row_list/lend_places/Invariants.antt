use Rattle.std.proofs.Common.{◌≡◌, ◌++◌, drop}
use Rattle.span_rows.specs.LentRows.{lent_rows}
use Rattle.span_rows.specs.RowPlaces.{rows_at}
use Rattle.span_rows.proofs.row_list.lend_places.Given as goal

-- the rows so far, and those at the places that are left
abbrev pub invariant-loop-place : goal.invariant-loop-place
invariant-loop-place l =
    lent_rows l.all.items ++ rows_at l.rows (drop l.place-index l.places) ≡ lent_rows l.fn.all.items ++ rows_at l.rows l.places
