use Rattle.std.proofs.Common.{◌+◌, ◌*◌, length}
use Rattle.span_threads.proofs.changes.+parts.Given as goal

abbrev pub decreases-parts_from : goal.decreases-parts_from
decreases-parts_from g l = 3 * length l.items.now

abbrev pub decreases-both_parts : goal.decreases-both_parts
decreases-both_parts g l = 3 * length l.others.now + 2

abbrev pub decreases-both_parts-back : goal.decreases-both_parts-back
decreases-both_parts-back g l = 3 * length l.others.now + 1
