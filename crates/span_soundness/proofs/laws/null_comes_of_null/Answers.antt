use Rattle.span_soundness.proofs.Nulls.{null_comes_of_null}
use Rattle.span_soundness.proofs.laws.null_comes_of_null.Goals as goal

pub returns : goal.returns
returns c = null_comes_of_null
