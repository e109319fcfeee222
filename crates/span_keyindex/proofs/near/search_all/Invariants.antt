use Rattle.std.proofs.Common.{◌*◌}
use Rattle.span_keyindex.specs.Nears.{IsLookCost}
use Rattle.span_keyindex.proofs.near.search_all.Given as goal

-- a key was compared for each lane at each level so far
abbrev pub invariant-loop-level : goal.invariant-loop-level
invariant-loop-level g l = IsLookCost (16 * l._level) l.fn.steps l.steps
