use Rattle.std.proofs.Common.{◌≡◌, ℕ, ◌+◌, ◌<◌, true, get_or}
use Rattle.span_keywalk.proofs.run.are_next_numbers.Given as goal

-- the links before lead to the next numbers
abbrev pub invariant-loop-i : goal.invariant-loop-i
invariant-loop-i l = l.are ≡ true → (k : ℕ) → k < l.i → get_or l.links (l.number + k) 0 ≡ l.number + k + 1
