use Rattle.span_keyindex.specs.Nears.{IsLookCost}
use Rattle.span_keyindex.proofs.near.search_one.Given as goal

-- a key was compared at each level so far
abbrev pub invariant-loop-level : goal.invariant-loop-level
invariant-loop-level g l = IsLookCost l._level l.fn.steps l.steps
