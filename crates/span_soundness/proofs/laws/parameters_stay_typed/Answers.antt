use Rattle.span_soundness.proofs.Binding.{parameters_stay_typed}
use Rattle.span_soundness.proofs.laws.parameters_stay_typed.Goals as goal

pub returns : goal.returns
returns c = parameters_stay_typed
