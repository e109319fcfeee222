use Rattle.std.proofs.Common.{◌∙◌, List, subst}
use Rattle.span_schema.specs.declared.table.Table.{Table}
use Rattle.span_machine.specs.declared.step.Step.TheVariants as step
use Rattle.span_machine.specs.declared.step.Reply.TheVariants as reply
use Rattle.span_steps.specs.Steps.{Takes, IsRead}
use Rattle.span_steps.proofs.running.RunningScript.query.Goals as goal

pub returns-in-Opened-clause-queried : goal.returns-in-Opened-clause-queried
returns-in-Opened-clause-queried c =
    let a = c.args in
    let o = c.in-Opened in
    let mid = c.read-reply.new.core.machine in (
      reply.Opened o.query o.s o.leaves,
      c.open.new.core.machine,
      o.ensures.taken,
      (
        mid,
        subst (λ (s : List Table). IsRead s c.open.new.core.machine a.self.now.clock o.query o.leaves c.read-reply.result mid) c.open.ensures.schema c.read-reply.ensures.read,
        (
          c.take_step-closed.result,
          subst (λ (s : List Table). Takes s mid (step.Close o.query) c.take_step-closed.result c.take_step-closed.new.core.machine) (c.read-reply.ensures.schema ∙ c.open.ensures.schema) c.take_step-closed.ensures.taken,
        ),
      ),
    )
