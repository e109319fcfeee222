use Rattle.span_soundness.proofs.Soundness.{statements_are_typed}
use Rattle.span_soundness.proofs.laws.statements_are_typed.Goals as goal

pub returns : goal.returns
returns c = statements_are_typed
