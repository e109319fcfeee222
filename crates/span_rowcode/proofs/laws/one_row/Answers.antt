use Rattle.std.proofs.Common.{arith}
use Rattle.span_rowcode.proofs.RowReads.{one_row}
use Rattle.span_rowcode.proofs.laws.one_row.Goals as goal

pub returns : goal.returns
returns c = λ ks vs ws k l e. one_row ks vs ws k.0 l.0 (omega (arith, k.1)) e
