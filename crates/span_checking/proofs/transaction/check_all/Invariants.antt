use Rattle.std.proofs.Common.{◌≡◌, ◌≤◌, ◌+◌, length, vec_len}
use Rattle.std.specs.Prelude.{vec_capacity}
use Rattle.std.specs.Vec.Iter.{into_iter_items, into_iter_len}
use Rattle.std.specs.Prelude.{All}
use Rattle.span_schema.specs.Numbers.{IsTable}
use Rattle.span_mutate.specs.declared.mutation.CheckedMutation.{CheckedMutation}
use Rattle.span_mutate.specs.Typed.{AreTypedMutations}
use Rattle.span_checking.specs.Checking.{checked_all, with_front}
use Rattle.span_checking.proofs.transaction.check_all.Given as goal

-- what was checked, the check of what is left, and capacity for it
abbrev pub invariant-loop-mutation : goal.invariant-loop-mutation
invariant-loop-mutation l = record {
  so_far : with_front l.checked.items (checked_all l.schema (into_iter_items l.mutation-iterator)) ≡ checked_all l.schema l.fn.mutations.items;
  tables : All (λ (m : CheckedMutation). IsTable l.schema m.table) l.checked.items;
  typed : AreTypedMutations l.schema l.checked.items;
  capacity : vec_len l.checked + into_iter_len l.mutation-iterator ≤ vec_capacity l.checked;
  count : into_iter_len l.mutation-iterator ≡ length (into_iter_items l.mutation-iterator);
}
