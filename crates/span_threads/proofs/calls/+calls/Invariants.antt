use Rattle.std.proofs.Common.{◌+◌, ◌*◌}
use Rattle.span_threads.proofs.calls.+calls.Given as goal

abbrev pub decreases-calls_from : goal.decreases-calls_from
decreases-calls_from g l = 2 * l.count

abbrev pub decreases-others : goal.decreases-others
decreases-others g l = 2 * l.left + 1
