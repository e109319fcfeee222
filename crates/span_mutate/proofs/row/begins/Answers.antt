use Rattle.std.proofs.Common.{sym}
use Rattle.span_mutate.proofs.Keys.{longer_is_no_front}
use Rattle.span_mutate.proofs.row.begins.Goals as goal

pub returns-then-front-values : goal.returns-then-front-values
returns-then-front-values c = sym (longer_is_no_front c.args.front.now c.args.values.now c.if-front-values.true)
