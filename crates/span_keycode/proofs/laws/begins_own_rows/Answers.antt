use Rattle.span_keycode.proofs.KeyLaws.{begins_own_rows}
use Rattle.span_keycode.proofs.laws.begins_own_rows.Goals as goal

pub returns : goal.returns
returns c = begins_own_rows
