use Rattle.std.proofs.Common.{◌≡◌, ◌++◌, drop, map, Some}
use Rattle.span_expr.specs.Forms.{as_column}
use Rattle.span_sorting.proofs.columns.columns_of.Given as goal

-- the columns so far, and the outputs that are left
abbrev pub invariant-loop-output : goal.invariant-loop-output
invariant-loop-output l = map as_column l.outputs ≡ map (λ column. Some column) l.columns.items ++ map as_column (drop l.output-index l.outputs)
