use Rattle.span_groups.proofs.Taking.{counts_row, takes_operand}
use Rattle.span_groups.proofs.aggregate.AggregateState.take.Goals as goal

pub returns-in-CountRows-clause-ok : goal.returns-in-CountRows-clause-ok
returns-in-CountRows-clause-ok c = counts_row c.args.aggregate.now c.args.row.now c.args.self.now c.count_row.new.self c.in-CountRows.is c.count_row.ensures

pub returns-in_ok-take_operand-in-Of-clause-ok : goal.returns-in_ok-take_operand-in-Of-clause-ok
returns-in_ok-take_operand-in-Of-clause-ok c =
    takes_operand c.args.aggregate.now c.args.row.now c.args.self.now c.take_operand.new.self c.in-Of.field-0 c.in-Of.operand c.in-Of.is c.in_ok-take_operand-in-Of.ensures.ok
