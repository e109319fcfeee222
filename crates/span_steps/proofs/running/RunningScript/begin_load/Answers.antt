use Rattle.span_mutate.specs.Batches.{batch_mutations}
use Rattle.span_steps.proofs.Loads.{load_begun, load_not_begun}
use Rattle.span_steps.proofs.running.RunningScript.begin_load.Goals.{in-Ok, in-Err}
use Rattle.span_steps.proofs.running.RunningScript.begin_load.Goals as goal

pub returns : goal.returns
returns c =
    let a = c.args in
    let self = a.self.now in
    let gathered = batch_mutations self.gathered.items in
    elim c.match-of_columns.branch [
      | in-Ok w ↦ rw w.records-is
          (load_begun a.schema.now a.table.now a.columns.now self.clock self.params gathered self.load (record { layout = w.in-Ok.layout; rows = w.new.result }) c.requires w.new.ensures.items w.in-Ok.ensures.read)
      | in-Err w ↦ rw w.records-is
          (load_not_begun a.schema.now a.table.now a.columns.now self.clock self.params gathered self.load (record { line = a.number; why = w.in-Err.why }) c.requires w.in-Err.ensures.refusals)
    ]
