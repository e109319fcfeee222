use Rattle.std.proofs.Common.{◌≡◌, ◌≤◌, ◌-◌, IfSome, true, false, length, take}
use Rattle.std.specs.Prelude.{slice_get}
use Rattle.std.specs.List.{AllByRecursion}
use Rattle.span_merging.specs.PartRests.{part_before}
use Rattle.span_merging.proofs.parts.place_of_part.Given as goal

-- the lists before the one place come before the one that is put, and that at the other place doesn't
abbrev pub invariant-loop-low : goal.invariant-loop-low
invariant-loop-low l = record {
  ends : l.low ≤ l.high;
  within : l.high ≤ length l.order;
  passed : AllByRecursion (λ j. part_before l.keys l.rests j l.part ≡ true) (take l.low l.order);
  next : IfSome (slice_get l.order l.high) (λ j. part_before l.keys l.rests j l.part ≡ false);
}

abbrev pub decreases-loop-low : goal.decreases-loop-low
decreases-loop-low l = l.high - l.low
