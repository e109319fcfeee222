use Rattle.span_steps.proofs.Loads.{gathers_row}
use Rattle.span_steps.proofs.running.RunningScript.gather_record.Goals as goal

pub returns : goal.returns
returns c =
    gathers_row c.args.layout c.args.kind c.args.text.now c.args.self.now c.gather.new.self c.in_ok-row.row c.in_ok-rows.rows.items c.gather.result c.in_ok-row.ensures.read c.in_ok-rows.ensures c.gather.ensures
