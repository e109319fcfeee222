-- A step that is taken.
use Rattle.std.proofs.Common.{ℕ, List, refl, inr}
use Rattle.span_truetime.specs.declared.bound.Bound.{Bound}
use Rattle.span_truetime.specs.declared.interval.Interval.{Interval}
use Rattle.span_value.specs.declared.refusal.Refusal.TheVariants.{OutOfMemory}
use Rattle.span_schema.specs.declared.table.Table.{Table}
use Rattle.span_params.specs.declared.params.Parameter.{Parameter}
use Rattle.span_machine.specs.declared.step.Step.{Step}
use Rattle.span_machine.specs.declared.step.Step.TheVariants as step
use Rattle.span_machine.specs.declared.step.Reply.{Reply}
use Rattle.span_machine.specs.declared.step.Reply.TheVariants.{Refused}
use Rattle.span_machine.specs.Machine.{Machine}
use Rattle.span_machine.specs.Run.{IsOfSchema}
use Rattle.span_core.specs.Histories.{IsStep}
use Rattle.span_core.specs.Promises.{Promises}
use Rattle.span_steps.specs.Steps.{Takes}

pub step_taken : (schema : List Table) (m : Machine) (s : Step) (answered : Reply) (next : Machine)
    → Promises schema m → IsOfSchema schema s → IsStep schema m s answered next → Takes schema m s answered next
unfolding Takes
step_taken schema m s answered next promises of steps = (steps, λ past. promises past s answered next of steps)

-- where memory runs out before the step, it is as where it runs out in it
pub opened_without_memory : (schema : List Table) (m : Machine) (text : List ℕ) (params : List Parameter) (bound : Bound) (clock : Interval)
    → Promises schema m → Takes schema m (step.Open text params bound clock) (Refused OutOfMemory) m
opened_without_memory schema m text params bound clock promises =
    step_taken schema m (step.Open text params bound clock) (Refused OutOfMemory) m promises tt (inr (refl, (refl, refl)))
