use Rattle.std.proofs.Common.{◌≡◌, ◌++◌, take}
use Rattle.span_rows.specs.RowPlaces.{rows_at}
use Rattle.span_collected.proofs.kept_groups.add_rows_at.Given as goal

abbrev pub invariant-loop-place : goal.invariant-loop-place
invariant-loop-place l = l.firsts ≡ l.fn.firsts ++ rows_at l.rows (take l.place-index l.places)
