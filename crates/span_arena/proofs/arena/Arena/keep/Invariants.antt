use Rattle.std.proofs.Common.{◌≡◌, ◌+◌, ◌≤◌, length}
use Rattle.span_arena.specs.Content.{versions, with_kept, kept_by}
use Rattle.span_arena.specs.Limits.{most_chains}
use Rattle.span_arena.specs.Runs.{IsTrimming, AreCellsOf, AreSpare, content}
use Rattle.span_arena.proofs.arena.Arena.keep.Given as goal

abbrev pub invariant-loop-left : goal.invariant-loop-left
invariant-loop-left l = record {
  trimming : IsTrimming l.self-inside.nodes.items l.self-inside.chains.items l.self-inside.free l.self-inside.free_count l.self-inside.most l.fn.chain.number l.left l.at;
  spare : AreSpare l.self-inside.chains.items l.self-inside.spare l.self-inside.spare_count;
  cells : AreCellsOf l.self-inside.chains.items l.self-inside.cells;
  few : length l.self-inside.cells ≤ most_chains;
  same : content l.self-inside.nodes.items l.self-inside.chains.items (l.self-inside.free_count + l.left) l.self-inside.most l.self-inside.cells ≡ with_kept l.fn.self l.fn.chain.number (kept_by l.fn.horizon (versions l.fn.self l.fn.chain.number));
}

abbrev pub decreases-loop-left : goal.decreases-loop-left
decreases-loop-left l = l.left
