use Rattle.span_mutate.proofs.TypedRows.{typed_stay}
use Rattle.span_mutate.proofs.laws.typed_stay.Goals as goal

pub returns : goal.returns
returns c = typed_stay
