use Rattle.span_keycode.proofs.KeyLaws.{one_key}
use Rattle.span_keycode.proofs.laws.one_key.Goals as goal

pub returns : goal.returns
returns c = one_key
