use Rattle.std.proofs.Common.{◌≡◌, ◌≤◌, ◌+◌, ◌++◌, Some, length, map, vec_len}
use Rattle.std.specs.Prelude.{vec_capacity}
use Rattle.std.specs.Vec.Iter.{into_iter_items, into_iter_len}
use Rattle.span_mutate.specs.declared.mutation.NamedValue.{NamedValue}
use Rattle.span_checking.proofs.column.values_in_order.Given as goal

-- the values so far, those of the cells that are left, and capacity for these
abbrev pub invariant-loop-cell : goal.invariant-loop-cell
invariant-loop-cell l = record {
  so_far : l.values.items ++ map (λ (x : NamedValue). Some x.value) (into_iter_items l.cell-iterator) ≡ map (λ (x : NamedValue). Some x.value) l.fn.cells.items;
  capacity : vec_len l.values + into_iter_len l.cell-iterator ≤ vec_capacity l.values;
  count : into_iter_len l.cell-iterator ≡ length (into_iter_items l.cell-iterator);
}
