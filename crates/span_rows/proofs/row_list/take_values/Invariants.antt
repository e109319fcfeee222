use Rattle.std.proofs.Common.{◌≡◌, ◌+◌, ◌-◌, ◌≤◌, ◌++◌, length, drop, take, replicate}
use Rattle.std.specs.Prelude.{vec_len, vec_capacity}
use Rattle.span_value.specs.declared.value.Value.TheVariants.{Null}
use Rattle.span_rows.proofs.row_list.take_values.Given as goal

-- the values before a place were moved, and the others are as they were
abbrev pub invariant-loop-at : goal.invariant-loop-at
invariant-loop-at l = record {
  long : length l.row.items ≡ length l.fn.row.items;
  capacity : vec_len l.values + (length l.fn.row.items - l.at) ≤ vec_capacity l.values;
  values : l.values.items ≡ l.fn.values.items ++ take l.at l.fn.row.items;
  row : l.row.items ≡ replicate l.at Null ++ drop l.at l.fn.row.items;
}
