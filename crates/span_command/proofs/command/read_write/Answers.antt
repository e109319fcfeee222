use Rattle.span_command.proofs.Refusing.{one_no_write}
use Rattle.span_command.proofs.command.read_write.Goals as goal

pub returns-in_err-columns : goal.returns-in_err-columns
returns-in_err-columns c = rw c.from_residual-in_err-columns.ensures
    (one_no_write c.args.kind c.args.words.now c.in_ok-table.table.now c.in_ok-table.rest.now c.requires c.in_ok-table.ensures.0 c.in_ok-table.ensures.1 c.in_err-columns.ensures)
