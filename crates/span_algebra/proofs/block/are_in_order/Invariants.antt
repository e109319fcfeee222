use Rattle.std.proofs.Common.{◌≡◌, ℕ, ◌<◌, get_or}
use Rattle.span_algebra.proofs.block.are_in_order.Given as goal

-- the columns so far are at their places
abbrev pub invariant-loop-at : goal.invariant-loop-at
invariant-loop-at l = (i : ℕ) → i < l.at → get_or l.columns i 0 ≡ i
