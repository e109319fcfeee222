use Rattle.std.proofs.Common.{◌≡◌, ◌≤◌, length, drop, true}
use Rattle.span_rowreader.specs.Placed.{wants_none}
use Rattle.span_rowreader.proofs.reader.count_to_last.Given as goal

abbrev pub decreases-loop-count : goal.decreases-loop-count
decreases-loop-count l = l.count

-- no place from here on is wanted
abbrev pub invariant-loop-count : goal.invariant-loop-count
invariant-loop-count l = record {
  within : l.count ≤ length l.places;
  rest : wants_none l.wanted (drop l.count l.places) ≡ true;
}
