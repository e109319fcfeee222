use Rattle.std.proofs.Common.{◌≤◌, length}
use Rattle.span_entries.proofs.Along.{StepsLeftAt}
use Rattle.span_entries.proofs.steps.goes_along.Given as goal

-- what is left of the key
abbrev pub invariant-loop-step : goal.invariant-loop-step
invariant-loop-step l = record {
  within : l.at ≤ length l.key;
  left : StepsLeftAt l.schema l.table l.steps l.key l.step-index l.at;
}
