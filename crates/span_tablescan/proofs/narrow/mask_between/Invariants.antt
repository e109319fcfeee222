use Rattle.std.proofs.Common.{◌≡◌, map}
use Rattle.std.specs.List.{range_with_len}
use Rattle.span_expr.specs.Places.{is_in}
use Rattle.span_tablescan.proofs.narrow.mask_between.Given as goal

-- the places so far
abbrev pub invariant-loop-place : goal.invariant-loop-place
invariant-loop-place l = l.mask.items ≡ map (is_in l.low l.high) (range_with_len 0 l.place)
