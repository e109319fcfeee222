use Rattle.span_entries.proofs.WholeKeys.{one_more}
use Rattle.span_entries.proofs.whole_key.table_by_length.Goals as goal

pub loop-i-preserved : goal.loop-i-preserved
loop-i-preserved c = one_more c.args.schema.now c.in_ok-at.at c.loop-i.i c.loop-i.invariant (c.has_number_at.ensures c.if-not-has_number_at.false)
