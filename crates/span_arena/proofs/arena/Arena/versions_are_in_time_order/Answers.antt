use Rattle.std.proofs.Common.{subst}
use Rattle.span_arena.specs.Order.{AreInTimeOrder}
use Rattle.span_arena.proofs.arena.Arena.versions_are_in_time_order.Goals as goal

pub returns : goal.returns
returns c = subst AreInTimeOrder c.self.view_is c.self.invariant.falling
