use Rattle.std.proofs.Common.{◌≡◌, length, replicate, take}
use Rattle.span_value.specs.declared.value.Value.TheVariants.{Null}
use Rattle.span_rowreader.proofs.reader.clear_values.Given as goal

-- the values before a place are NULL
abbrev pub invariant-loop-at : goal.invariant-loop-at
invariant-loop-at l = record {
  long : length l.row.items ≡ length l.fn.row.items;
  nulls : take l.at l.row.items ≡ replicate l.at Null;
}
