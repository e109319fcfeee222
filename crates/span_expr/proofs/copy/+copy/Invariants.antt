use Rattle.std.proofs.Common.{◌≡◌, ◌-◌, map, take}
use Rattle.span_expr.specs.Places.{moved, moved_link, moved_arm, rank}
use Rattle.span_expr.proofs.copy.+copy.Given as goal

abbrev pub invariant-copy_all-loop-operand : goal.invariant-copy_all-loop-operand
invariant-copy_all-loop-operand l = l.copies ≡ map (moved (λ place. rank l.mask (place - l.front))) (take l.operand-index l.operands)

abbrev pub invariant-copy_links-loop-link : goal.invariant-copy_links-loop-link
invariant-copy_links-loop-link l = l.copies ≡ map (moved_link (λ place. rank l.mask (place - l.front))) (take l.link-index l.links)

abbrev pub invariant-copy_arms-loop-arm : goal.invariant-copy_arms-loop-arm
invariant-copy_arms-loop-arm l = l.copies ≡ map (moved_arm (λ place. rank l.mask (place - l.front))) (take l.arm-index l.arms)
