use Rattle.std.proofs.Common.{length}
use Rattle.span_shard.specs.Overlay.{changes_of, AreWrittenFrom}
use Rattle.span_shard.proofs.change.removals.Given as goal

-- the removed rows that are not left are written
abbrev pub invariant-loop-key : goal.invariant-loop-key
invariant-loop-key l = AreWrittenFrom l.store (changes_of l.made l.fn.removed.keys) (changes_of l.made l.left.keys) l.writes.items

abbrev pub decreases-loop-key : goal.decreases-loop-key
decreases-loop-key l = length l.left.keys
