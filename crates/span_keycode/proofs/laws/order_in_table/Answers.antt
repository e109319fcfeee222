use Rattle.span_keycode.proofs.KeyLaws.{order_in_table}
use Rattle.span_keycode.proofs.laws.order_in_table.Goals as goal

pub returns : goal.returns
returns c = order_in_table
