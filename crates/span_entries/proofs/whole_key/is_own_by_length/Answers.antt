use Rattle.std.proofs.Common.{arith}
use Rattle.span_entries.proofs.WholeKeys.{other_length, eighths}
use Rattle.span_entries.proofs.whole_key.is_own_by_length.Goals as goal

pub returns-then-key-at-2 : goal.returns-then-key-at-2
returns-then-key-at-2 c = other_length c.args.schema.now c.meets_rules.ensures c.args.table c.args.at.now c.requires c.args.key.now (λ nulls e. omega (arith, e, c.if-key-at-2.true))

pub returns-then-at-key-ne0 : goal.returns-then-at-key-ne0
returns-then-at-key-ne0 c = other_length c.args.schema.now c.meets_rules.ensures c.args.table c.args.at.now c.requires c.args.key.now (λ nulls e. c.if-at-key-ne0.true (eighths c.args.schema.now c.meets_rules.ensures c.args.table c.args.at.now c.requires c.args.key.now nulls e))
