use Rattle.std.proofs.Common.{◌≡◌, ◌+◌, map, drop, Ok}
use Rattle.std.specs.Option.{option_map}
use Rattle.std.specs.List.{fold}
use Rattle.span_operators.specs.Steps.{next_of, append_step}
use Rattle.span_typing.specs.Typing.{Operand, typing, arm_typing, link_typing, each, conditions, condition, links, next_link, arms, arm, compared_arms, compared_arm}
use Rattle.span_typing.proofs.Sizes.{size, all_sizes, arm_size, link_size, or_zero}
use Rattle.span_typing.proofs.typing.Names.+typing.Given as goal

-- the operands so far, and those that are left
abbrev pub invariant-each-loop-operand : goal.invariant-each-loop-operand
invariant-each-loop-operand l =
    each (map (typing l.self.scope.now l.self.params.now) l.operands) l.mode l.fn.found
    ≡ fold (next_of (append_step (λ (a : Operand). a l.mode))) (Ok (l.all, l.found)) (map (typing l.self.scope.now l.self.params.now) (drop l.operand-index l.operands))

abbrev pub invariant-conditions-loop-operand : goal.invariant-conditions-loop-operand
invariant-conditions-loop-operand l =
    conditions l.kind (map (typing l.self.scope.now l.self.params.now) l.operands) l.mode l.fn.found
    ≡ fold (next_of (append_step (λ (a : Operand). condition l.kind a l.mode))) (Ok (l.all, l.found)) (map (typing l.self.scope.now l.self.params.now) (drop l.operand-index l.operands))

abbrev pub invariant-links-loop-link : goal.invariant-links-loop-link
invariant-links-loop-link l =
    links l.fn.kind (map (link_typing l.self.scope.now l.self.params.now) l.links) l.mode l.fn.found
    ≡ fold (next_of (next_link l.mode)) (Ok (l.chain, l.found)) (map (link_typing l.self.scope.now l.self.params.now) (drop l.link-index l.links))

abbrev pub invariant-arms-loop-arm : goal.invariant-arms-loop-arm
invariant-arms-loop-arm l =
    arms (map (arm_typing l.self.scope.now l.self.params.now) l.arms) l.mode l.fn.found
    ≡ fold (next_of (append_step (λ (a : Operand × Operand). arm a l.mode))) (Ok (l.all, l.found)) (map (arm_typing l.self.scope.now l.self.params.now) (drop l.arm-index l.arms))

abbrev pub invariant-compared_arms-loop-arm : goal.invariant-compared_arms-loop-arm
invariant-compared_arms-loop-arm l =
    compared_arms l.kind (map (arm_typing l.self.scope.now l.self.params.now) l.arms) l.mode l.fn.found
    ≡ fold (next_of (append_step (λ (a : Operand × Operand). compared_arm l.kind a l.mode))) (Ok (l.all, l.found)) (map (arm_typing l.self.scope.now l.self.params.now) (drop l.arm-index l.arms))

abbrev pub decreases-bind : goal.decreases-bind
decreases-bind a = size a.tree.now

abbrev pub decreases-comparison : goal.decreases-comparison
decreases-comparison a = (size a.left.now + size a.right.now) + 1

abbrev pub decreases-between : goal.decreases-between
decreases-between a = ((size a.operand.now + size a.low.now) + size a.high.now) + 1

abbrev pub decreases-membership : goal.decreases-membership
decreases-membership a = (size a.operand.now + all_sizes (map size a.members.now)) + 2

abbrev pub decreases-chain : goal.decreases-chain
decreases-chain a = (size a.first.now + all_sizes (map link_size a.links.now)) + 2

abbrev pub decreases-conjunction : goal.decreases-conjunction
decreases-conjunction a = (size a.first.now + all_sizes (map size a.more.now)) + 2

abbrev pub decreases-disjunction : goal.decreases-disjunction
decreases-disjunction a = (size a.first.now + all_sizes (map size a.more.now)) + 2

abbrev pub decreases-each : goal.decreases-each
decreases-each a = all_sizes (map size a.operands.now) + 1

abbrev pub decreases-conditions : goal.decreases-conditions
decreases-conditions a = all_sizes (map size a.operands.now) + 1

abbrev pub decreases-links : goal.decreases-links
decreases-links a = all_sizes (map link_size a.links.now) + 1

abbrev pub decreases-arms : goal.decreases-arms
decreases-arms a = all_sizes (map arm_size a.arms.now) + 1

abbrev pub decreases-compared_arms : goal.decreases-compared_arms
decreases-compared_arms a = all_sizes (map arm_size a.arms.now) + 1

abbrev pub decreases-optional : goal.decreases-optional
decreases-optional a = or_zero (option_map size a.operand.now) + 1

abbrev pub decreases-call : goal.decreases-call
decreases-call a = all_sizes (map size a.operands.now) + 2

abbrev pub decreases-case : goal.decreases-case
decreases-case a = ((or_zero (option_map size a.operand.now) + all_sizes (map arm_size a.arms.now)) + or_zero (option_map size a.otherwise.now)) + 2

abbrev pub decreases-condition : goal.decreases-condition
decreases-condition a = size a.operand.now + 1

abbrev pub decreases-arm : goal.decreases-arm
decreases-arm a = arm_size a.arm.now

abbrev pub decreases-compared_arm : goal.decreases-compared_arm
decreases-compared_arm a = arm_size a.arm.now
