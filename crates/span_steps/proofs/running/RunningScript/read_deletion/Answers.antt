use Rattle.std.proofs.Common.{◌≡◌, ◌⊎◌, inl, inr, ⊎_elim}
use Rattle.std.proofs.lemmas.Result.{IfOk-weaker, IfErr-weaker}
use Rattle.span_value.specs.declared.refusal.Refusal.TheVariants.{OutOfMemory}
use Rattle.span_mutate.specs.declared.mutation.MutationKind.TheVariants as mutation
use Rattle.span_records.specs.Layouts.{IsOfRecord}
use Rattle.span_records.specs.Record.{record_fields}
use Rattle.span_steps.specs.States.{IsDeletion, RefusesRecord, RefusesDelete}
use Rattle.span_steps.proofs.running.RunningScript.read_deletion.Goals as goal

pub returns-clause-read : goal.returns-clause-read
returns-clause-read c =
    let a = c.args in
    let layout = c.in_ok-layout.layout in
    IfOk-weaker c.read_record.result (IsOfRecord layout mutation.Delete (record_fields a.text.now)) (IsDeletion a.schema.now a.table.now a.text.now)
    (λ m read. (layout, c.in_ok-layout.ensures.read, read))
    c.read_record.ensures.read

pub returns-clause-refused : goal.returns-clause-refused
returns-clause-refused c =
    let a = c.args in
    let layout = c.in_ok-layout.layout in
    IfErr-weaker c.read_record.result (λ why. (why ≡ OutOfMemory) ⊎ RefusesRecord layout mutation.Delete a.text.now why)
    (λ why. (why ≡ OutOfMemory) ⊎ RefusesDelete a.schema.now a.table.now a.text.now why)
    (λ why refused. ⊎_elim (λ memory. inl memory) (λ refuses. inr (inr (layout, c.in_ok-layout.ensures.read, refuses))) refused)
    c.read_record.ensures.refused
