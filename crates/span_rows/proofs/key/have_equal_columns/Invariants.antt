use Rattle.std.proofs.Common.{◌≡◌, drop}
use Rattle.span_query.specs.Groups.{are_equal, columns_at}
use Rattle.span_rows.proofs.key.have_equal_columns.Given as goal

abbrev pub invariant-loop-at : goal.invariant-loop-at
invariant-loop-at l =
    are_equal (columns_at l.left_places l.left) (columns_at l.right_places l.right)
    ≡ are_equal (columns_at (drop l.at l.left_places) l.left) (columns_at (drop l.at l.right_places) l.right)
