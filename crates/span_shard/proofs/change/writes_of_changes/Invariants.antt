use Rattle.std.proofs.Common.{[], length}
use Rattle.span_shard.specs.Overlay.{changes_of, AreWrittenFrom}
use Rattle.span_shard.proofs.change.writes_of_changes.Given as goal

-- the made rows that are not left are written, and the removed ones
abbrev pub invariant-loop-key : goal.invariant-loop-key
invariant-loop-key l = AreWrittenFrom l.store l.fn.changes (changes_of l.left []) l.writes.items

abbrev pub decreases-loop-key : goal.decreases-loop-key
decreases-loop-key l = length l.left
