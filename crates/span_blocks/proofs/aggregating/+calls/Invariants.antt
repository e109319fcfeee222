use Rattle.std.proofs.Common.{◌≡◌, map, drop}
use Rattle.span_blocks.specs.Aggregating.{some_true, calls_aggregate, arm_aggregates, link_aggregates}
use Rattle.span_blocks.proofs.aggregating.+calls.Given as goal

abbrev pub invariant-some_calls-loop-tree : goal.invariant-some_calls-loop-tree
invariant-some_calls-loop-tree l = some_true (map calls_aggregate l.trees) ≡ some_true (map calls_aggregate (drop l.tree-index l.trees))

abbrev pub invariant-some_arm_calls-loop-arm : goal.invariant-some_arm_calls-loop-arm
invariant-some_arm_calls-loop-arm l = some_true (map arm_aggregates l.arms) ≡ some_true (map arm_aggregates (drop l.arm-index l.arms))

abbrev pub invariant-some_link_calls-loop-link : goal.invariant-some_link_calls-loop-link
invariant-some_link_calls-loop-link l = some_true (map link_aggregates l.links) ≡ some_true (map link_aggregates (drop l.link-index l.links))
