use Rattle.span_machine_laws.proofs.Consistent.{history_consistent}
use Rattle.span_machine_laws.proofs.histories_are_consistent.Goals as goal

pub returns : goal.returns
returns g c = history_consistent g.U.Understanding.understands
