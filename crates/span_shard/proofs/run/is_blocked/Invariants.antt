use Rattle.std.proofs.Common.{false, take}
use Rattle.std.specs.List.{AllByRecursion}
use Rattle.span_shard.specs.Overlay.{BlocksDelete}
use Rattle.span_shard.proofs.run.is_blocked.Given as goal

-- none of the keys so far is of a blocking table
abbrev pub invariant-loop-key : goal.invariant-loop-key
invariant-loop-key l = AllByRecursion (BlocksDelete l.schema l.table false) (take l.key-index l.keys)
