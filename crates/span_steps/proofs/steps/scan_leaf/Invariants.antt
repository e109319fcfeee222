use Rattle.std.proofs.Common.{◌≡◌}
use Rattle.span_steps.specs.Steps.{AreTaken, scans_of_leaf}
use Rattle.span_steps.proofs.steps.scan_leaf.Given as goal

-- the slots before this one are scanned
abbrev pub invariant-loop-slot : goal.invariant-loop-slot
invariant-loop-slot l =
    AreTaken l.fn.core.schema l.fn.core.machine (scans_of_leaf l.clock l.query l.slot l.leaf) l.core.machine × (l.core.schema ≡ l.fn.core.schema)
