use Rattle.std.proofs.Common.{◌≡◌, length}
use Rattle.span_steps.specs.Steps.{AreTaken, scans}
use Rattle.span_steps.proofs.steps.scan.Given as goal

-- the leaves before this one are scanned
abbrev pub invariant-loop-leaf : goal.invariant-loop-leaf
invariant-loop-leaf l =
    AreTaken l.fn.core.schema l.fn.core.machine (scans l.clock l.query (length l.fn.core.machine.slots) l.leaf) l.core.machine
    × (l.core.schema ≡ l.fn.core.schema) × (l.slots ≡ length l.fn.core.machine.slots)
