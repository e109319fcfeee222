use Rattle.std.proofs.Common.{◌≡◌, vec_len}
use Rattle.std.specs.List.{AllByRecursion}
use Rattle.span_shard.specs.Shard.{HasSomeOf}
use Rattle.span_store.specs.KeyLists.{AreInOrder, IsInUse}
use Rattle.span_shard.proofs.shard.put_all.Given as goal

-- those after what is left are prepared
abbrev pub invariant-loop-write : goal.invariant-loop-write
invariant-loop-write l = record {
  some : HasSomeOf l.txn l.fn.writes.items l.fn.store l.store;
  front : some.front ≡ l.left.items;
  order : AreInOrder l.store;
  used : AllByRecursion IsInUse l.store;
}

abbrev pub decreases-loop-write : goal.decreases-loop-write
decreases-loop-write l = vec_len l.left
