use Rattle.std.proofs.Common.{◌≡◌, ◌++◌, length}
use Rattle.std.specs.List.{filter}
use Rattle.std.specs.Ordering.{is_lt, is_gt}
use Rattle.std.specs.Vec.Iter.{into_iter_items, into_iter_len}
use Rattle.span_mutate.specs.declared.row.TableRow.{TableRow}
use Rattle.span_mutate.specs.Rows.{row_order}
use Rattle.span_mutate.proofs.row.with_row.Given as goal

-- the rows before, the rows after, and those of what is left
abbrev pub invariant-loop-old : goal.invariant-loop-old
invariant-loop-old l = record {
  front : l.front.items ++ filter (λ (q : TableRow). is_lt (row_order l.columns q l.row)) (into_iter_items l.old-iterator) ≡ filter (λ (q : TableRow). is_lt (row_order l.columns q l.row)) l.fn.rows.items;
  later : l.later.items ++ filter (λ (q : TableRow). is_gt (row_order l.columns q l.row)) (into_iter_items l.old-iterator) ≡ filter (λ (q : TableRow). is_gt (row_order l.columns q l.row)) l.fn.rows.items;
  count : into_iter_len l.old-iterator ≡ length (into_iter_items l.old-iterator);
}
