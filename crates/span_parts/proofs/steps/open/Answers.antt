use Rattle.std.proofs.Common.{Ok}
use Rattle.span_machine.specs.declared.step.Step.TheVariants as step
use Rattle.span_parts.proofs.Wholes.{goes_by, pieces_opened}
use Rattle.span_parts.proofs.steps.open.Goals as goal

pub returns-clause-whole : goal.returns-clause-whole
returns-clause-whole c =
    let a = c.args in
    let j = c.args.journal.now in
    let k = c.open.new.self in
    goes_by a.schema.now j k (Ok a.query.statement) (step.Open a.query.text a.query.params a.bound a.interval) tt _ c.open.ensures.step tt
    (pieces_opened a.schema.now _ a.query.text a.query.params a.query.statement j.queries k.queries c.requires.plannable c.open.ensures.pieces c.open.ensures.err)
