use Rattle.span_machine.specs.declared.step.Step.TheVariants as step
use Rattle.span_parts.proofs.Wholes.{no_text, goes_by, pieces_same}
use Rattle.span_parts.proofs.steps.begin.Goals as goal

pub returns-clause-whole : goal.returns-clause-whole
returns-clause-whole c =
    let j = c.args.journal.now in
    let k = c.begin.new.self in
    goes_by c.args.schema.now j k no_text (step.Begin c.args.owner c.args.transaction) c.requires _ c.begin.ensures.step tt (pieces_same c.args.schema.now j.queries k.queries c.begin.ensures.pieces)
