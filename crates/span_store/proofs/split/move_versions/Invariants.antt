use Rattle.span_keytree.specs.Entries.{entries_from}
use Rattle.span_keyindex.specs.Indexes.{entries_of}
use Rattle.span_store.proofs.Moving.{IsMoving}
use Rattle.span_store.proofs.split.move_versions.Given as goal

-- the versions of the keys so far are moved
abbrev pub invariant-loop-source : goal.invariant-loop-source
invariant-loop-source l = record {
  can_next : (goal.iterator-loop-source).can_next l.sources;
  is_finite : (goal.iterator-loop-source).is_finite l.sources;
  so_far : IsMoving (entries_from l.key (entries_of l.index l.fn.arena)) (entries_of l.part l.fn.to) l.sources l.chains l.fn.arena l.arena l.fn.to l.to;
}
