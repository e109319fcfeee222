use Rattle.std.proofs.Common.{◌≡◌}
use Rattle.span_arena.specs.Content.{newest_upto, versions}
use Rattle.span_arena.specs.Runs.{node_at, walk, IsSomeRun}
use Rattle.span_arena.proofs.arena.Arena.newest_at.Given as goal

abbrev pub invariant-loop-left : goal.invariant-loop-left
invariant-loop-left l = record {
  run : IsSomeRun (node_at l.self-inside.nodes.items) l.left l.at;
  same : newest_upto l.s (walk (node_at l.self-inside.nodes.items) l.left l.at) ≡ newest_upto l.s (versions l.self l.fn.chain.number);
}

abbrev pub decreases-loop-left : goal.decreases-loop-left
decreases-loop-left l = l.left
