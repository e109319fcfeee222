use Rattle.span_keytree.specs.Entries.{entries_from}
use Rattle.span_keyindex.specs.Indexes.{entries_of}
use Rattle.span_keyindex.proofs.Splitting.{IsCopying}
use Rattle.span_keyindex.proofs.split.copy_keys.Given as goal

-- the keys so far are copied
abbrev pub invariant-loop-bytes : goal.invariant-loop-bytes
invariant-loop-bytes g l = record {
  can_next : (goal.iterator-loop-bytes g).can_next l.left;
  is_finite : (goal.iterator-loop-bytes g).is_finite l.left;
  so_far : IsCopying (entries_from l.low (entries_of l.index l.arena)) l.left l.arena.most l.part l.chains;
}
