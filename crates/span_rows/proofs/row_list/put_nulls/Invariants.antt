use Rattle.std.proofs.Common.{◌≡◌, ◌+◌, ◌-◌, ◌≤◌, ◌++◌, replicate}
use Rattle.std.specs.Prelude.{vec_len, vec_capacity}
use Rattle.span_value.specs.declared.value.Value.TheVariants.{Null}
use Rattle.span_rows.proofs.row_list.put_nulls.Given as goal

-- the NULLs so far, and the capacity for all
abbrev pub invariant-loop : goal.invariant-loop
invariant-loop l = record {
  nulls : l.values.items ≡ l.fn.values.items ++ replicate l.counter Null;
  capacity : vec_len l.values + (l.count - l.counter) ≤ vec_capacity l.values;
}
