use Rattle.std.proofs.Common.{◌≡◌, drop}
use Rattle.std.specs.List.{list_any}
use Rattle.span_blocks.specs.Aggregating.{calls_aggregate}
use Rattle.span_blocks.specs.Blocks.{ons_of}
use Rattle.span_blocks.proofs.aggregating.joins_call.Given as goal

abbrev pub invariant-loop-join : goal.invariant-loop-join
invariant-loop-join l = list_any calls_aggregate (ons_of l.joins) ≡ list_any calls_aggregate (ons_of (drop l.join-index l.joins))
