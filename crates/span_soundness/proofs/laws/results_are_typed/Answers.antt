use Rattle.span_soundness.proofs.Soundness.{results_are_typed}
use Rattle.span_soundness.proofs.laws.results_are_typed.Goals as goal

pub returns : goal.returns
returns c = results_are_typed
