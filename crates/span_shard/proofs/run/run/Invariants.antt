use Rattle.std.specs.Option.{option_copied}
use Rattle.span_shard.specs.Overlay.{HasParent}
use Rattle.span_shard.proofs.RunAll.{HaveRun}
use Rattle.span_shard.proofs.run.run.Given as goal

-- the mutations so far have run, and the parent row of the one that is known is there
abbrev pub invariant-loop-mutation : goal.invariant-loop-mutation
invariant-loop-mutation l = record {
  run : HaveRun l.schema l.mutations l.store l.mutation-index l.changes;
  known : HasParent l.schema l.store l.changes (option_copied l.known);
}
