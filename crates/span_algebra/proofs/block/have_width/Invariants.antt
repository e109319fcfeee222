use Rattle.std.proofs.Common.{◌≡◌, ◌==◌, drop, length}
use Rattle.std.specs.List.{list_all}
use Rattle.span_query.specs.Rows.{Row}
use Rattle.span_algebra.proofs.block.have_width.Given as goal

-- the rows so far have the number of columns
abbrev pub invariant-loop-at : goal.invariant-loop-at
invariant-loop-at l = list_all (λ (row : Row). length row == l.width) l.rows ≡ list_all (λ (row : Row). length row == l.width) (drop l.at l.rows)
