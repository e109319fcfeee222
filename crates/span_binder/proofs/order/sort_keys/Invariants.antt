use Rattle.std.proofs.Common.{◌≡◌, drop}
use Rattle.span_blocks.specs.Onward.{fold_results, append_result}
use Rattle.span_binder.specs.Queries as spec
use Rattle.span_binder.proofs.order.sort_keys.Given as goal

abbrev pub invariant-loop-key : goal.invariant-loop-key
invariant-loop-key l = spec.sort_keys l.columns l.keys ≡ fold_results (append_result (spec.sort_key l.columns)) (drop l.key-index l.keys) l.all
