use Rattle.span_mutate.specs.Batches.{batch_mutations}
use Rattle.span_steps.proofs.Loads.{row_loaded, row_passed_over, row_refused}
use Rattle.span_steps.proofs.running.RunningScript.load_record.Goals.{in-Ok+in-Ok-with_record, in-Ok+in-Err-with_record, in-Err}
use Rattle.span_steps.proofs.running.RunningScript.load_record.Goals as goal

pub returns : goal.returns
returns c =
    let a = c.args in
    let self = a.self.now in
    let gathered = batch_mutations self.gathered.items in
    elim c.match-records.branch [
      | in-Ok+in-Ok-with_record w ↦ rw (w.self-is, w.records-is)
          (row_loaded self.clock self.params gathered a.load w.in-Ok.records a.text.now w.in-Ok-with_record.records w.in-Ok.is w.in-Ok-with_record.ensures)
      | in-Ok+in-Err-with_record w ↦ rw (w.self-is, w.records-is)
          (row_refused self.clock self.params gathered a.load w.in-Ok.records a.text.now (record { line = a.number; why = w.in-Err-with_record.why }) w.in-Ok.is w.in-Err-with_record.ensures)
      | in-Err w ↦ rw (w.self-is, w.records-is)
          (row_passed_over self.clock self.params gathered a.load a.text.now w.in-Err.refused w.in-Err.is)
    ]
