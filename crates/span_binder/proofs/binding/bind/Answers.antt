use Rattle.span_binder.proofs.QueryFaults.{bind_faults}
use Rattle.span_binder.proofs.binding.bind.Goals as goal

pub returns-clause-faults : goal.returns-clause-faults
returns-clause-faults c = bind_faults c.args.schema.now c.args.params.now c.args.tree.now c.statement_of.result c.statement_of.ensures.statement
