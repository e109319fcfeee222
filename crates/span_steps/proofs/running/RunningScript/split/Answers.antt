use Rattle.std.proofs.Common.{inl}
use Rattle.span_steps.proofs.Commands.{split_refused}
use Rattle.span_steps.proofs.running.RunningScript.split.Goals as goal

pub returns-in-Ok-clause-split : goal.returns-in-Ok-clause-split
returns-in-Ok-clause-split c =
    inl (c.in-Ok.field-0, rw (c.schema.ensures) at c.in-Ok.ensures.read, c.take_step.ensures.taken)

pub returns-clause-split : goal.returns-clause-split
returns-clause-split c =
    split_refused c.args.core.now.schema c.args.core.now.machine c.args.table.now c.args.text.now c.in-Err.why c.split_refusal.result
    (rw (c.schema.ensures) at c.in-Err.ensures.refused) c.split_refusal.ensures.which c.split_refusal.ensures.memory
