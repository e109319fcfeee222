use Rattle.std.proofs.Common.{◌≡◌, ◌≤◌, ◌+◌, length, vec_len}
use Rattle.std.specs.Prelude.{vec_capacity}
use Rattle.std.specs.Vec.Iter.{into_iter_items, into_iter_len}
use Rattle.span_mutate.specs.Batches.{row_mutations}
use Rattle.span_mutate.specs.Typed.{AreTypedMutations}
use Rattle.span_checking.specs.Checking.{checked_all, with_front}
use Rattle.span_checking.proofs.batch_check.check_rows.Given as goal

-- what was checked, the check of what is left, and capacity for it
abbrev pub invariant-loop-row : goal.invariant-loop-row
invariant-loop-row l = record {
  so_far : with_front l.done.items (checked_all l.schema (row_mutations l.heading (into_iter_items l.row-iterator))) ≡ with_front l.fn.done.items (checked_all l.schema (row_mutations l.heading l.fn.rows.items));
  typed : AreTypedMutations l.schema l.done.items;
  capacity : vec_len l.done + into_iter_len l.row-iterator ≤ vec_capacity l.done;
  count : into_iter_len l.row-iterator ≡ length (into_iter_items l.row-iterator);
}
