use Rattle.std.proofs.Common.{◌≡◌, ◌++◌, drop}
use Rattle.span_blocks.specs.Outputs as spec
use Rattle.span_blocks.proofs.output.places_of.Given as goal

abbrev pub invariant-loop-place : goal.invariant-loop-place
invariant-loop-place l = l.places ++ spec.places_of l.item l.place (drop l.place l.columns) ≡ spec.places_of l.item 0 l.columns
