use Rattle.std.proofs.Common.{inr}
use Rattle.span_mutate.specs.declared.mutation.MutationKind.TheVariants as mutation
use Rattle.span_steps.specs.States.{Gathers, Deletes, RefusesRecord, RefusesDelete}
use Rattle.span_steps.specs.Running.{state_of}
use Rattle.span_steps.proofs.Commands.{changes_by}
use Rattle.span_steps.proofs.running.RunningScript.delete.Goals as goal

pub returns : goal.returns
returns c =
    let a = c.args in
    let layout = c.in_ok-layout.layout in
    let is = c.in_ok-layout.ensures.read in
    changes_by (Gathers layout mutation.Delete a.text.now (state_of a.self.now)) (Deletes a.schema.now a.table.now a.text.now (state_of a.self.now))
    (RefusesRecord layout mutation.Delete a.text.now) (RefusesDelete a.schema.now a.table.now a.text.now)
    a.self.now c.gather_record.new.self c.gather_record.result
    (λ next gathers. (layout, is, gathers))
    (λ why refuses. inr (layout, is, refuses))
    c.gather_record.ensures
