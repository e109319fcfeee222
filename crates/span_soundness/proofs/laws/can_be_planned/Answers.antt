use Rattle.span_soundness.proofs.Soundness.{statements_can_be_planned}
use Rattle.span_soundness.proofs.laws.can_be_planned.Goals as goal

pub returns : goal.returns
returns c = statements_can_be_planned c.args.schema.now c.args.text.now c.args.params.now c.args.statement.now c.requires
