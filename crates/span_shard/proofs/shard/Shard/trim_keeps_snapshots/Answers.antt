use Rattle.std.specs.Prelude.{map}
use Rattle.span_store.specs.KeyLists.{trimmed_key}
use Rattle.span_shard.proofs.Horizons.{snapshot_trimmed}
use Rattle.span_store.proofs.Full.{live_used}
use Rattle.span_shard.proofs.shard.Shard.trim_keeps_snapshots.Goals as goal

pub returns-clause-seen : goal.returns-clause-seen
returns-clause-seen c range s le = snapshot_trimmed range c.args.h s c.args.self.now le

pub returns-clause-live : goal.returns-clause-live
returns-clause-live c = live_used (map (trimmed_key c.args.h) c.args.self.now)
