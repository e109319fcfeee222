use Rattle.std.proofs.Common.{subst}
use Rattle.span_store.specs.KeyLists.{AreInOrder}
use Rattle.span_shard.proofs.shard.Shard.keys_are_in_order.Goals as goal

pub returns : goal.returns
returns c = subst AreInOrder c.self.view_is c.self.invariant.1
