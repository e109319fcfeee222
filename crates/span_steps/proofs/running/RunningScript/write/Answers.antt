use Rattle.std.proofs.Common.{inr}
use Rattle.span_steps.specs.States.{Gathers, Writes, RefusesRecord, RefusesWrite}
use Rattle.span_steps.specs.Running.{state_of}
use Rattle.span_steps.proofs.Commands.{changes_by}
use Rattle.span_steps.proofs.running.RunningScript.write.Goals as goal

pub returns : goal.returns
returns c =
    let a = c.args in
    let layout = c.in_ok-layout.layout in
    let is = c.in_ok-layout.ensures.read in
    changes_by (Gathers layout a.kind a.text.now (state_of a.self.now)) (Writes a.schema.now a.kind a.table.now a.columns.now a.text.now (state_of a.self.now))
    (RefusesRecord layout a.kind a.text.now) (RefusesWrite a.schema.now a.kind a.table.now a.columns.now a.text.now)
    a.self.now c.gather_record.new.self c.gather_record.result
    (λ next gathers. (layout, is, gathers))
    (λ why refuses. inr (layout, is, refuses))
    c.gather_record.ensures
