use Rattle.span_keycode.proofs.Characters.{texts_in_order}
use Rattle.span_keycode.proofs.laws.order_of_texts.Goals as goal

pub returns : goal.returns
returns c = texts_in_order
