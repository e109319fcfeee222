use Rattle.std.proofs.Common.{◌≡◌, take}
use Rattle.span_query.specs.Groups.{distinct}
use Rattle.span_rows.proofs.distinct.first_occurrences.Given as goal

abbrev pub invariant-loop-at : goal.invariant-loop-at
invariant-loop-at l = l.seen.keys ≡ distinct (take l.at l.rows)
