use Rattle.std.proofs.Common.{length}
use Rattle.span_columns.proofs.narrow.+picked_width.Given as goal

abbrev pub decreases-picked_width : goal.decreases-picked_width
decreases-picked_width l = length l.mask.now
