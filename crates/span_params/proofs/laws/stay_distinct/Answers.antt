use Rattle.span_params.proofs.Finding.{distinct}
use Rattle.span_params.proofs.laws.stay_distinct.Goals as goal

pub returns : goal.returns
returns c = distinct
