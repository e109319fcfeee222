use Rattle.span_keytree.specs.Entries.{entries_from}
use Rattle.span_keyindex.specs.Indexes.{entries_of}
use Rattle.span_store.proofs.Moving.{IsReservedSoFar}
use Rattle.span_store.proofs.split.reserve_versions.Given as goal

-- there is capacity for the versions of the keys so far
abbrev pub invariant-loop-chain : goal.invariant-loop-chain
invariant-loop-chain l = record {
  can_next : (goal.iterator-loop-chain).can_next l.chains;
  is_finite : (goal.iterator-loop-chain).is_finite l.chains;
  so_far : IsReservedSoFar (entries_from l.key (entries_of l.index l.arena)) l.chains l.arena l.fn.room l.room;
}
