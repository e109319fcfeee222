use Rattle.std.proofs.Common.{◌≡◌, ◌≤◌, ◌+◌, ◌++◌, length, vec_len}
use Rattle.std.specs.Prelude.{vec_capacity}
use Rattle.std.specs.Vec.Iter.{into_iter_items, into_iter_len}
use Rattle.span_records.specs.Layouts.{column_names}
use Rattle.span_records.proofs.layout.names_of.Given as goal

-- the names so far, those of the parts that are left, and capacity for these
abbrev pub invariant-loop-part : goal.invariant-loop-part
invariant-loop-part l = record {
  so_far : l.names.items ++ column_names (into_iter_items l.part-iterator) ≡ column_names l.fn.parts.items;
  capacity : vec_len l.names + into_iter_len l.part-iterator ≤ vec_capacity l.names;
  count : into_iter_len l.part-iterator ≡ length (into_iter_items l.part-iterator);
}
