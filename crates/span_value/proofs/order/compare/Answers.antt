use Rattle.std.proofs.Common.{rules}
use Rattle.span_value.proofs.Total.{equal_is, turned_is}
use Rattle.span_value.proofs.order.compare.Goals as goal

pub returns-in-Str-Str-clause-equal : goal.returns-in-Str-Str-clause-equal
returns-in-Str-Str-clause-equal c = equal_is _ _ _ (search rules)

pub returns-in-Str-Str-clause-reversed : goal.returns-in-Str-Str-clause-reversed
returns-in-Str-Str-clause-reversed c = turned_is c.args.left.now c.args.right.now _ (search rules)

pub returns-in-Bytes-Bytes-clause-equal : goal.returns-in-Bytes-Bytes-clause-equal
returns-in-Bytes-Bytes-clause-equal c = equal_is _ _ _ (search rules)

pub returns-in-Bytes-Bytes-clause-reversed : goal.returns-in-Bytes-Bytes-clause-reversed
returns-in-Bytes-Bytes-clause-reversed c = turned_is c.args.left.now c.args.right.now _ (search rules)
