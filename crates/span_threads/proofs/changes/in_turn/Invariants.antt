use Rattle.std.proofs.Common.{◌≡◌, ℕ, ◌+◌, ◌<◌, ◌≤◌, length, get_or}
use Rattle.std.specs.Fork.{ChangesAt}
use Rattle.span_threads.proofs.changes.in_turn.Given as goal

-- the items below the place are changed, the others are as they were
abbrev pub invariant-loop-at : goal.invariant-loop-at
invariant-loop-at g l = record {
  long : length l.items ≡ length l.fn.items;
  changed : (k : ℕ) (d : g.row.T.Denot) → k < l.at → ChangesAt g.F.Fn l.f (l.base + k) (get_or l.fn.items k d) (get_or l.items k d);
  others : (k : ℕ) (d : g.row.T.Denot) → l.at ≤ k → get_or l.items k d ≡ get_or l.fn.items k d;
}
