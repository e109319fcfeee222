use Rattle.span_classes.specs.Merging.{AreMergedBefore, firsts_of}
use Rattle.span_classes.proofs.merge.merge_classes.Given as goal

abbrev pub invariant-loop-row : goal.invariant-loop-row
invariant-loop-row l = AreMergedBefore l.numbers (firsts_of l.classes) l.taken.items l.places.items l.row
