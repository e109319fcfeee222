use Rattle.std.proofs.Common.{arith, subst}
use Rattle.span_arena.specs.Order.{AreInTimeOrder}
use Rattle.span_arena.proofs.Contents.{live_is, in_order}
use Rattle.span_arena.proofs.arena.Arena.live.Goals as goal

pub returns-clause-live : goal.returns-clause-live
returns-clause-live c = let i = c.self.inside in rw (← c.self.view_is) (omega (arith, c.len.ensures, live_is i.nodes.items i.chains.items i.free i.free_count i.most i.cells c.self.invariant.sound))

pub returns-clause-order : goal.returns-clause-order
returns-clause-order c = let i = c.self.inside in rw (← c.self.view_is) (in_order i.nodes.items i.chains.items i.free i.free_count i.most i.cells c.self.invariant.sound)

pub returns-clause-falling : goal.returns-clause-falling
returns-clause-falling c = subst AreInTimeOrder c.self.view_is c.self.invariant.falling
