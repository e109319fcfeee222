use Rattle.std.proofs.Common.{[], slice_index_or, take}
use Rattle.span_merging.specs.PartRanges.{AreRestsWhere, is_before_boundary, is_from_boundary}
use Rattle.span_merging.proofs.part_ranges.cut_rests.Given as goal

-- the lists so far
abbrev pub invariant-loop-rest : goal.invariant-loop-rest
invariant-loop-rest l = record {
  before : AreRestsWhere l.keys l.are_exact (is_before_boundary l.keys (slice_index_or l.rows l.boundary.place [])) (take l.rest-index l.rests) l.before.items;
  from : AreRestsWhere l.keys l.are_exact (is_from_boundary l.keys (slice_index_or l.rows l.boundary.place [])) (take l.rest-index l.rests) l.from.items;
}
