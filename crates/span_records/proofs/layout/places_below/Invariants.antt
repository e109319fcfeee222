use Rattle.span_records.specs.Columns.{AreBelow}
use Rattle.span_records.proofs.layout.places_below.Given as goal

-- the places so far are the numbers below the next one
abbrev pub invariant-loop-place : goal.invariant-loop-place
invariant-loop-place l = AreBelow l.place l.places.items
