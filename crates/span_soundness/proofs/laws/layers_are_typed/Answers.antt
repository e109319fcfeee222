use Rattle.span_soundness.proofs.Soundness.{layers_are_typed}
use Rattle.span_soundness.proofs.laws.layers_are_typed.Goals as goal

pub returns : goal.returns
returns c = layers_are_typed
