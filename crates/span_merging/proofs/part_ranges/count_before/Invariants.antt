use Rattle.std.proofs.Common.{◌≡◌, ◌≤◌, ◌-◌, IfSome, true, false, length, take}
use Rattle.std.specs.Prelude.{slice_get, slice_index_or, []}
use Rattle.std.specs.List.{AllByRecursion}
use Rattle.span_merging.specs.PartRanges.{is_before_boundary}
use Rattle.span_merging.specs.PartRests.{rest_rows}
use Rattle.span_merging.proofs.part_ranges.count_before.Given as goal

-- the rows before the one place come before the boundary, and that at the other place doesn't
abbrev pub invariant-loop-low : goal.invariant-loop-low
invariant-loop-low l = record {
  ends : l.low ≤ l.high;
  within : l.high ≤ length l.rest.places.now;
  passed : AllByRecursion (λ row. is_before_boundary l.keys (slice_index_or l.rows l.boundary.place []) row ≡ true) (take l.low (rest_rows l.rest));
  next : IfSome (slice_get (rest_rows l.rest) l.high) (λ row. is_before_boundary l.keys (slice_index_or l.rows l.boundary.place []) row ≡ false);
}

abbrev pub decreases-loop-low : goal.decreases-loop-low
decreases-loop-low l = l.high - l.low
