use Rattle.span_soundness.proofs.Binding.{types_are_right}
use Rattle.span_soundness.proofs.laws.types_are_right.Goals as goal

pub returns : goal.returns
returns c = types_are_right
