use Rattle.span_rowreader.proofs.Numbers.{some_column_read}
use Rattle.span_rowreader.proofs.number.column_number.Goals as goal

pub returns-in-Int : goal.returns-in-Int
returns-in-Int c = some_column_read c.args.column c.args.bytes.now c.key_number.result c.in-Int.is c.key_number.ensures
