use Rattle.std.proofs.Common.{◌≡◌, ◌<◌, ℕ, length, take}
use Rattle.std.specs.List.{All}
use Rattle.span_rows.specs.Columns.{distinct_at}
use Rattle.span_rows.specs.RowPlaces.{rows_at}
use Rattle.span_collected.proofs.firsts.places_of_firsts.Given as goal

-- the values that were seen are those of the rows so far, and those at the places are the same
abbrev pub invariant-loop-at : goal.invariant-loop-at
invariant-loop-at l = record {
  within : All (λ (place : ℕ). place < length l.rows) l.places.items;
  seen : l.seen.keys ≡ distinct_at l.columns (take l.at l.rows);
  values : distinct_at l.columns (rows_at l.rows l.places.items) ≡ distinct_at l.columns (take l.at l.rows);
}
