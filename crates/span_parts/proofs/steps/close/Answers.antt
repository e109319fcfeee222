use Rattle.std.proofs.Common.{inl}
use Rattle.span_machine.specs.declared.step.Step.TheVariants as step
use Rattle.span_parts.proofs.Wholes.{no_text, goes_by, pieces_closed}
use Rattle.span_parts.proofs.steps.close.Goals as goal

pub returns-clause-whole : goal.returns-clause-whole
returns-clause-whole c =
    let j = c.args.journal.now in
    let k = c.close.new.self in
    goes_by c.args.schema.now j k no_text (step.Close c.args.query) tt _ (inl c.close.ensures.step) tt
    (pieces_closed c.args.schema.now _ c.args.query j.queries k.queries c.close.ensures.pieces c.close.ensures.err)
