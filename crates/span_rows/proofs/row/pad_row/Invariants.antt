use Rattle.std.proofs.Common.{◌≡◌, ◌++◌, replicate}
use Rattle.span_value.specs.declared.value.Value.TheVariants.{Null}
use Rattle.span_rows.proofs.row.pad_row.Given as goal

-- the row with the NULLs added so far
abbrev pub invariant-loop : goal.invariant-loop
invariant-loop l = l.row.items ≡ l.fn.row.items ++ replicate l.counter Null
