use Rattle.span_mutate.proofs.Apart.{one_database}
use Rattle.span_mutate.proofs.laws.one_database.Goals as goal

pub returns : goal.returns
returns c = one_database
