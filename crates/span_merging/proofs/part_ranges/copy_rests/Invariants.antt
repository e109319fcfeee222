use Rattle.std.proofs.Common.{◌≡◌, take}
use Rattle.span_merging.proofs.part_ranges.copy_rests.Given as goal

abbrev pub invariant-loop-rest : goal.invariant-loop-rest
invariant-loop-rest l = l.copies.items ≡ take l.rest-index l.rests
