use Rattle.std.proofs.Common.{◌≡◌, map}
use Rattle.std.specs.List.{range_with_len}
use Rattle.span_columns.specs.Reads.{is_read}
use Rattle.span_leaves.proofs.reads.reads_of.Given as goal

-- the places so far
abbrev pub invariant-loop-place : goal.invariant-loop-place
invariant-loop-place l = l.reads.items ≡ map (is_read l.block) (range_with_len 0 l.place)
