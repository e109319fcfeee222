use Rattle.std.proofs.Common.{◌≤◌}
use Rattle.span_rowreader.proofs.KeyReads.{ReadsSoFar}
use Rattle.span_rowreader.proofs.reads.key_reads.Given as goal

-- the columns so far
abbrev pub invariant-loop-step : goal.invariant-loop-step
invariant-loop-step l = record {
  within : l.above ≤ l.step-index;
  so_far : ReadsSoFar l.steps l.places l.step-index l.reads.items l.above;
}
