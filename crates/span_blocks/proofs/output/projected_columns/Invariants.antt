use Rattle.std.proofs.Common.{◌≡◌, drop}
use Rattle.span_blocks.specs.Onward.{fold_results, append_result}
use Rattle.span_blocks.specs.Outputs as spec
use Rattle.span_blocks.proofs.output.projected_columns.Given as goal

abbrev pub invariant-loop-place : goal.invariant-loop-place
invariant-loop-place l = spec.projected_columns l.scope l.mode l.places ≡ fold_results (append_result (spec.projected_column l.scope l.mode)) (drop l.place-index l.places) l.all
