use Rattle.std.proofs.Common.{◌≡◌, ◌++◌, map, take, flat_map}
use Rattle.span_expr.specs.Conjuncts.{conjuncts}
use Rattle.span_expr.proofs.conjunct.+conjuncts.Given as goal

abbrev pub invariant-add_all_conjuncts-loop-operand : goal.invariant-add_all_conjuncts-loop-operand
invariant-add_all_conjuncts-loop-operand l = map (λ e. e.now) l.found.items ≡ map (λ e. e.now) l.initial.found.items ++ flat_map conjuncts (take l.operand-index l.operands)
