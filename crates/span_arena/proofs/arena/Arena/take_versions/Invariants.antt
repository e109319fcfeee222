use Rattle.std.proofs.Common.{◌≡◌, ◌+◌, ◌≤◌, length}
use Rattle.span_arena.specs.Content.{versions}
use Rattle.span_arena.specs.Limits.{most_chains}
use Rattle.span_arena.specs.declared.record.ChainRecord.TheVariants as chain
use Rattle.span_arena.specs.Runs.{IsTrimming, AreCellsOf, AreSpare, content, follow, walk, node_at, record_at}
use Rattle.span_arena.proofs.Emptying.{IsEmptied}
use Rattle.span_arena.proofs.arena.Arena.take_versions.Given as goal

-- the first free nodes have the versions that were taken so far, and are in no chain yet
abbrev pub invariant-loop-version : goal.invariant-loop-version
invariant-loop-version l = record {
  filling : IsTrimming l.self-inside.nodes.items l.self-inside.chains.items l.self-inside.free l.self-inside.free_count l.self-inside.most l.fn.chain.number l.count l.newest;
  end : follow (node_at l.self-inside.nodes.items) l.count l.newest ≡ l.self-inside.free;
  used : record_at l.self-inside.chains.items l.fn.chain.number ≡ chain.Used l.links;
  none : l.links.count ≡ 0;
  spare : AreSpare l.self-inside.chains.items l.self-inside.spare l.self-inside.spare_count;
  cells : AreCellsOf l.self-inside.chains.items l.self-inside.cells;
  few : length l.self-inside.cells ≤ most_chains;
  same : content l.self-inside.nodes.items l.self-inside.chains.items (l.self-inside.free_count + l.count) l.self-inside.most l.self-inside.cells ≡ l.fn.self;
  emptied : IsEmptied l.fn.from l.from l.fn.source.number (walk (node_at l.self-inside.nodes.items) l.count l.newest);
  enough : length (versions l.from l.fn.source.number) ≤ l.self-inside.free_count;
}

abbrev pub decreases-loop-version : goal.decreases-loop-version
decreases-loop-version l = length (versions l.from l.fn.source.number)
