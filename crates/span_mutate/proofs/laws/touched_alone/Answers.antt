use Rattle.span_mutate.proofs.TouchedRows.{touched_alone}
use Rattle.span_mutate.proofs.laws.touched_alone.Goals as goal

pub returns : goal.returns
returns c = touched_alone
