use Rattle.std.proofs.Common.{◌≡◌, drop}
use Rattle.span_query.specs.Groups.{columns_at}
use Rattle.span_rows.specs.RowOrders.{values_order}
use Rattle.span_rows.proofs.key.compare_columns.Given as goal

-- the values so far are equal
abbrev pub invariant-loop-at : goal.invariant-loop-at
invariant-loop-at l =
    values_order (columns_at l.left_places l.left) (columns_at l.right_places l.right)
    ≡ values_order (columns_at (drop l.at l.left_places) l.left) (columns_at (drop l.at l.right_places) l.right)
