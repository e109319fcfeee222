use Rattle.std.proofs.Common.{◌≡◌, take}
use Rattle.span_params.proofs.params.Params.copy.Given as goal

abbrev pub invariant-loop-parameter : goal.invariant-loop-parameter
invariant-loop-parameter l = l.parameters ≡ take l.parameter-index l.parameter-items
