use Rattle.std.proofs.Common.{◌≡◌, drop}
use Rattle.span_blocks.specs.Onward.{fold_results}
use Rattle.span_blocks.specs.Outputs as spec
use Rattle.span_blocks.proofs.output.select_list.Given as goal

abbrev pub invariant-loop-output : goal.invariant-loop-output
invariant-loop-output l = spec.select_list l.names.scope.now l.names.params.now l.mode l.outputs ≡ fold_results (spec.project_next l.names.scope.now l.names.params.now l.mode) (drop l.output-index l.outputs) l.so_far
