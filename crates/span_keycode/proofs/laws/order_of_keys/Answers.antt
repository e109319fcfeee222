use Rattle.span_keycode.proofs.KeyLaws.{order_of_keys}
use Rattle.span_keycode.proofs.laws.order_of_keys.Goals as goal

pub returns : goal.returns
returns c = order_of_keys
