use Rattle.span_mutate.proofs.Parents.{parents_stay}
use Rattle.span_mutate.proofs.laws.parents_stay.Goals as goal

pub returns : goal.returns
returns c = parents_stay
