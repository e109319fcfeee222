use Rattle.std.proofs.Common.{sym, subst}
use Rattle.span_value.specs.declared.refusal.Refusal.{Refusal}
use Rattle.span_machine.specs.declared.step.Step.TheVariants as step
use Rattle.span_machine.specs.declared.step.Reply.TheVariants.{Refused}
use Rattle.span_steps.specs.Steps.{Takes}
use Rattle.span_steps.proofs.Taking.{opened_without_memory}
use Rattle.span_steps.proofs.running.RunningScript.open.Goals as goal

pub returns-in-Err-clause-taken : goal.returns-in-Err-clause-taken
returns-in-Err-clause-taken c =
    let a = c.args in
    let m = a.core.now.machine in
    subst (λ (why : Refusal). Takes a.core.now.schema m (step.Open a.text.now a.self.now.params a.bound a.self.now.clock) (Refused why) m)
    (sym c.in-Err.ensures.memory)
    (opened_without_memory a.core.now.schema m a.text.now a.self.now.params a.bound a.self.now.clock c.is_reached.ensures.promises)
