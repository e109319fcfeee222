use Rattle.std.proofs.Common.{ℕ, ◌≤◌, ◌≢◌}
use Rattle.span_entries.specs.WholeKeys.{HasOtherLengths}
use Rattle.span_entries.proofs.whole_key.own_length.Given as goal

-- the other tables so far
abbrev pub invariant-loop-i : goal.invariant-loop-i
invariant-loop-i l = (m : ℕ) → 1 ≤ m → m ≤ l.i → m ≢ l.table → HasOtherLengths l.schema l.at.len m
