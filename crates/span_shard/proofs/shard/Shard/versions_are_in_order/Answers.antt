use Rattle.std.proofs.Common.{subst}
use Rattle.span_store.specs.KeyLists.{HaveFallingVersions, ReadLastVersions}
use Rattle.span_store.proofs.Later.{last_is_read}
use Rattle.span_shard.proofs.shard.Shard.versions_are_in_order.Goals as goal

pub returns-clause-falling : goal.returns-clause-falling
returns-clause-falling c = subst HaveFallingVersions c.self.view_is c.live-kept.ensures.falling

pub returns-clause-last : goal.returns-clause-last
returns-clause-last c = subst ReadLastVersions c.self.view_is (last_is_read c.self.inside.store c.live-kept.ensures.falling)
