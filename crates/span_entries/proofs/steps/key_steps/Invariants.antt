use Rattle.std.proofs.Common.{◌≡◌, ◌++◌, drop}
use Rattle.span_schema.specs.Numbers.{path_of}
use Rattle.span_entries.specs.Steps.{path_steps, key_steps}
use Rattle.span_entries.proofs.steps.key_steps.Given as goal

-- the steps so far, and those of the levels that are left
abbrev pub invariant-loop-i : goal.invariant-loop-i
invariant-loop-i l = l.steps.items ++ path_steps l.schema (drop l.i (path_of l.schema l.table)) ≡ key_steps l.schema l.table
