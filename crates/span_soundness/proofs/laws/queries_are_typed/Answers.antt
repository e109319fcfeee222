use Rattle.span_soundness.proofs.Soundness.{queries_are_typed}
use Rattle.span_soundness.proofs.laws.queries_are_typed.Goals as goal

pub returns : goal.returns
returns c = queries_are_typed
