use Rattle.std.proofs.Common.{◌≡◌, ◌≤◌, ◌-◌, ◌++◌}
use Rattle.span_arena.specs.Content.{kept_upto}
use Rattle.span_arena.specs.Runs.{follow, walk, node_at}
use Rattle.span_arena.proofs.cut.cut_at.Given as goal

abbrev pub invariant-loop-kept : goal.invariant-loop-kept
invariant-loop-kept l = record {
  within : l.kept ≤ l.count;
  here : l.at ≡ follow (node_at l.nodes.items) l.kept l.newest;
  same : kept_upto l.horizon (walk (node_at l.nodes.items) l.count l.newest) ≡ walk (node_at l.nodes.items) l.kept l.newest ++ kept_upto l.horizon (walk (node_at l.nodes.items) (l.count - l.kept) l.at);
}

abbrev pub decreases-loop-kept : goal.decreases-loop-kept
decreases-loop-kept l = l.count - l.kept
