use Rattle.std.proofs.Common.{◌≡◌, drop, Some}
use Rattle.span_query.specs.Rows.{append_results, values}
use Rattle.span_algebra.proofs.select.put_values.Given as goal

-- the values so far, and those of the outputs that are left
abbrev pub invariant-loop-output : goal.invariant-loop-output
invariant-loop-output l = values l.outputs l.row ≡ append_results (Some l.found.items) (values (drop l.output-index l.outputs) l.row)
