use Rattle.std.proofs.Common.{sym, subst}
use Rattle.span_maderows.specs.Made.{AreInKeyOrder}
use Rattle.span_maderows.proofs.MadeRows.{order_back}
use Rattle.span_maderows.proofs.ordered.make_way.Goals as goal

pub is_before_all-requires : goal.is_before_all-requires
is_before_all-requires c = subst AreInKeyOrder (sym c.as_slice.ensures.value) (order_back c.args.map.now.entries c.args.tail.now.items c.requires)
