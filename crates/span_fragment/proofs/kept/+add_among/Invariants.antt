use Rattle.std.proofs.Common.{length}
use Rattle.span_fragment.proofs.kept.+add_among.Given as goal

abbrev pub decreases-add_among : goal.decreases-add_among
decreases-add_among l = length l.whole.now
