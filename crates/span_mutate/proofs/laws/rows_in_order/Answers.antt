use Rattle.span_mutate.proofs.TableLists.{rows_in_order}
use Rattle.span_mutate.proofs.laws.rows_in_order.Goals as goal

pub returns : goal.returns
returns c = rows_in_order
