use Rattle.span_mutate.proofs.Faults.{faults_are_named}
use Rattle.span_mutate.proofs.laws.faults_are_named.Goals as goal

pub returns : goal.returns
returns c = faults_are_named
