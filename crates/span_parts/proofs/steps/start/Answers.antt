use Rattle.span_parts.proofs.Wholes.{start_whole}
use Rattle.span_parts.proofs.steps.start.Goals as goal

pub returns : goal.returns
returns c = start_whole c.args.schema.now c.meets_rules.ensures c.args.journal.now c.args.shards.now.items c.requires.machine c.requires.pieces c.requires.shards
