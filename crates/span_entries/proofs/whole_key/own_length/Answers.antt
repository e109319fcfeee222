use Rattle.span_entries.proofs.WholeKeys.{one_more_apart}
use Rattle.span_entries.proofs.whole_key.own_length.Goals as goal

pub loop-i-preserved : goal.loop-i-preserved
loop-i-preserved c = one_more_apart c.args.schema.now c.in_ok-at.at.len c.args.table c.loop-i.i c.loop-i.invariant (c.is_apart.ensures c.if-not-is_apart.false)
