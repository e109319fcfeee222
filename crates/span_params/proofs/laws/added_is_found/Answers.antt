use Rattle.span_params.proofs.Finding.{found}
use Rattle.span_params.proofs.laws.added_is_found.Goals as goal

pub returns : goal.returns
returns c = found
