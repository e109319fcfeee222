use Rattle.std.proofs.Common.{rules}
use Rattle.span_rows.proofs.Alike.{unlike_lengths}
use Rattle.span_rows.proofs.distinct.are_equal.Goals as goal

pub returns-then-left-right : goal.returns-then-left-right
returns-then-left-right c = unlike_lengths c.args.left.now c.args.right.now (search rules)
