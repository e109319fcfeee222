use Rattle.std.proofs.Common.{◌≡◌, ◌++◌, take}
use Rattle.span_entries.specs.Steps.{level_steps}
use Rattle.span_entries.proofs.steps.add_level.Given as goal

-- the steps so far
abbrev pub invariant-loop-column : goal.invariant-loop-column
invariant-loop-column l = l.steps.items ≡ l.fn.steps.items ++ level_steps l.table (take l.column-index l.columns)
