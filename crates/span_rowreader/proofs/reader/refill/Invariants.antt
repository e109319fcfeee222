use Rattle.std.proofs.Common.{◌≡◌, ◌≤◌, replicate}
use Rattle.std.specs.Prelude.{vec_len, vec_capacity}
use Rattle.span_value.specs.declared.value.Value.TheVariants.{Null}
use Rattle.span_rowreader.proofs.reader.refill.Given as goal

-- the NULLs so far, and the capacity for all
abbrev pub invariant-loop : goal.invariant-loop
invariant-loop l = record {
  nulls : l.row.items ≡ replicate l.counter Null;
  many : vec_len l.row ≡ l.counter;
  capacity : l.len ≤ vec_capacity l.row;
}
