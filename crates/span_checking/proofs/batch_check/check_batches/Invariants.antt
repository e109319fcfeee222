use Rattle.std.proofs.Common.{◌≡◌, length}
use Rattle.std.specs.Vec.Iter.{into_iter_items, into_iter_len}
use Rattle.span_mutate.specs.Batches.{batch_mutations}
use Rattle.span_mutate.specs.Typed.{AreTypedMutations}
use Rattle.span_checking.specs.Checking.{checked_all, with_front}
use Rattle.span_checking.proofs.batch_check.check_batches.Given as goal

-- what was checked, and the check of what is left
abbrev pub invariant-loop-batch : goal.invariant-loop-batch
invariant-loop-batch l = record {
  so_far : with_front l.done.items (checked_all l.schema (batch_mutations (into_iter_items l.batch-iterator))) ≡ checked_all l.schema (batch_mutations l.fn.batches.items);
  typed : AreTypedMutations l.schema l.done.items;
  count : into_iter_len l.batch-iterator ≡ length (into_iter_items l.batch-iterator);
}
