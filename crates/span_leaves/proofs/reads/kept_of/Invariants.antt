use Rattle.std.proofs.Common.{◌≡◌, map}
use Rattle.std.specs.List.{range_with_len}
use Rattle.span_columns.specs.Reads.{is_read, block_above}
use Rattle.span_leaves.proofs.reads.kept_of.Given as goal

-- the places so far
abbrev pub invariant-loop-place : goal.invariant-loop-place
invariant-loop-place l = l.kept.items ≡ map (is_read (block_above l.block l.count)) (range_with_len 0 l.place)
