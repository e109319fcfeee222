use Rattle.std.proofs.Common.{◌≡◌, drop}
use Rattle.span_query.specs.Sorting.{row_order}
use Rattle.span_sorting.proofs.sort.compare_rows.Given as goal

abbrev pub invariant-loop-key : goal.invariant-loop-key
invariant-loop-key l = row_order l.keys l.left l.right ≡ row_order (drop l.key-index l.keys) l.left l.right
