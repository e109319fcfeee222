use Rattle.std.proofs.Common.{ℕ, ◌≤◌}
use Rattle.span_entries.specs.WholeKeys.{HasNumberAt}
use Rattle.span_entries.proofs.whole_key.table_by_length.Given as goal

-- the tables so far
abbrev pub invariant-loop-i : goal.invariant-loop-i
invariant-loop-i l = (m : ℕ) → 1 ≤ m → m ≤ l.i → HasNumberAt l.schema l.at m
