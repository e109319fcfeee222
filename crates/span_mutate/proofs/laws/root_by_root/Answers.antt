use Rattle.span_mutate.proofs.ByRoots.{root_by_root}
use Rattle.span_mutate.proofs.laws.root_by_root.Goals as goal

pub returns : goal.returns
returns c = root_by_root
