use Rattle.span_keyindex.specs.Indexes.{entries_of}
use Rattle.span_store.proofs.Cutting.{IsLeft}
use Rattle.span_store.proofs.trim.trim_chains.Given as goal

-- the keys so far are trimmed
abbrev pub invariant-loop-chain : goal.invariant-loop-chain
invariant-loop-chain l = record {
  can_next : (goal.iterator-loop-chain).can_next l.chains;
  is_finite : (goal.iterator-loop-chain).is_finite l.chains;
  so_far : IsLeft l.horizon (entries_of l.index l.fn.arena) l.chains l.fn.arena l.arena;
}
