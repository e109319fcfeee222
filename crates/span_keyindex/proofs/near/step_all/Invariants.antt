use Rattle.span_keyindex.specs.Nears.{IsLookCost}
use Rattle.span_keyindex.proofs.near.step_all.Given as goal

-- a key was compared for each lane so far
abbrev pub invariant-loop-i : goal.invariant-loop-i
invariant-loop-i g l = IsLookCost l.i l.fn.steps l.steps
