use Rattle.std.proofs.lemmas.Map.Keys.{IsDistinct-from_sorted}
use Rattle.span_keycode.specs.Order.{byte_order}
use Rattle.span_maderows.proofs.ordered.OrderedRows.into_left.Goals as goal

pub new-requires : goal.new-requires
new-requires c = IsDistinct-from_sorted byte_order _ c.self.invariant
