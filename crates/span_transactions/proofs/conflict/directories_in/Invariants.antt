use Rattle.std.proofs.Common.{take}
use Rattle.span_transactions.specs.Conflicts.{AreDirectories}
use Rattle.span_transactions.proofs.conflict.directories_in.Given as goal

-- the directories of those so far
abbrev pub invariant-loop-mutation : goal.invariant-loop-mutation
invariant-loop-mutation l = AreDirectories l.schema l.slot_state (take l.mutation-index l.mutations) l.directories.keys
