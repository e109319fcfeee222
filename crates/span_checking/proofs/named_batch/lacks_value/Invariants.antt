use Rattle.std.proofs.Common.{◌≡◌, drop}
use Rattle.span_checking.specs.NamedBatches.{lacks_value}
use Rattle.span_checking.proofs.named_batch.lacks_value.Given as goal

abbrev pub invariant-loop-i : goal.invariant-loop-i
invariant-loop-i l = lacks_value l.columns l.places l.names l.cells ≡ lacks_value l.columns (drop l.i l.places) (drop l.i l.names) l.cells
