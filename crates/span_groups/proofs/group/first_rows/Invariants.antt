use Rattle.std.proofs.Common.{◌≡◌, take}
use Rattle.span_rows.specs.LentRows.{lent_rows}
use Rattle.span_rows.specs.RowPlaces.{rows_at}
use Rattle.span_groups.proofs.group.first_rows.Given as goal

abbrev pub invariant-loop-place : goal.invariant-loop-place
invariant-loop-place l = lent_rows l.all.items ≡ rows_at l.rows (take l.place-index l.firsts)
