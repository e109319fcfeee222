use Rattle.std.proofs.Common.{rules}
use Rattle.span_typing.specs.Typing.{column_at}
use Rattle.span_typing.proofs.leaf.column_at.Goals as goal

pub returns-in-Groups : goal.returns-in-Groups
unfolding column_at
returns-in-Groups c = rw c.in-Groups.is (search rules)
