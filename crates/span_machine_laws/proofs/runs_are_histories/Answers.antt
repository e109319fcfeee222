use Rattle.span_machine_laws.proofs.History.{run_history}
use Rattle.span_machine_laws.proofs.runs_are_histories.Goals as goal

pub returns : goal.returns
returns g c = run_history g.U.Understanding.understands
