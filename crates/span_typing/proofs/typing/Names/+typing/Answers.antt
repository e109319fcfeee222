use Rattle.std.proofs.Common.{rules, arith, ◌<◌, ◌++◌, ◌∷◌, [], List, map, refl, sym, subst, Ok, Err, Option, Result}
use Rattle.std.specs.Option.{option_map}
use Rattle.span_trees.specs.declared.tree.Operator.{Operator}
use Rattle.span_expr.specs.declared.expr.Expr.{Expr as TypedExpr}
use Rattle.span_query.specs.declared.query.Aggregate.{Aggregate}
use Rattle.span_value.specs.declared.refusal.Refusal.{Refusal}
use Rattle.span_value.specs.declared.refusal.Refusal.TheVariants as refusal
use Rattle.span_value.specs.Results.{and_then}
use Rattle.span_operators.specs.declared.typed.Typed.{Typed}
use Rattle.span_operators.specs.declared.typed.TypedArm.{TypedArm}
use Rattle.span_operators.specs.declared.typed.TypedLinks.{TypedLinks}
use Rattle.span_operators.specs.Steps.{TypingStep, Leaves, append_step, from_result, ◌>>=◌}
use Rattle.span_operators.specs.Operators.{unary_minus, logical_not, null_test, like_test, comparison_test, between, in_list, append_link, chain_of, case_of, match_of, apply_function}
use Rattle.span_typing.specs.Typing.{Operand, typing, arm_typing, link_typing, condition, condition_of, next_link, arm, arm_typed, check_kind, compared_arm, all_true, some_true, aggregate}
use Rattle.span_typing.proofs.Sizes.{size, all_sizes, arm_size, link_size, smaller_at}
use Rattle.span_typing.proofs.Layers.{chain_read, case_read, negative_read, null_test_read, denied_read, like_read, case_some}
use Rattle.span_typing.proofs.Stepping.{made_of, made_of_two, stopped, given, gives, given_with, refused_with, given_two, refused_two, given_three, refused_three, second_refused, taken, refused}
use Rattle.span_typing.proofs.Making.{one_stopped, two_stopped, three_stopped, three_stopped_second, member_stopped, chain_stopped, junction_stopped, searched_stopped, simple_stopped, simple_stopped_second, unknown_stopped, function_stopped, aggregate_stopped, one_made, two_made, three_made, member_made, chain_made, junction_made, searched_made, simple_made, unknown_made, function_made, aggregate_made}
use Rattle.span_typing.proofs.typing.Names.+typing.Goals as goal

-- ---- what is made of operands

pub comparison-returns-in_err-left : goal.comparison-returns-in_err-left
comparison-returns-in_err-left t c =
    let whole = two_stopped (comparison_test c.args.comparison) (typing c.args.self.scope.now c.args.self.params.now c.args.left.now) (typing c.args.self.scope.now c.args.self.params.now c.args.right.now) c.args.mode c.args.found.now c.bind.new.found c.bind.new.found c.bind.result c.in_err-left.field-0.0 c.bind.ensures c.in_err-left.was in
    search (rules, whole)

pub comparison-returns-in_err-left-2 : goal.comparison-returns-in_err-left-2
comparison-returns-in_err-left-2 t c =
    let whole = two_made (comparison_test c.args.comparison) (typing c.args.self.scope.now c.args.self.params.now c.args.left.now) (typing c.args.self.scope.now c.args.self.params.now c.args.right.now) c.args.mode c.args.found.now c.bind.new.found c.bind-2.new.found c.bind.result c.bind-2.result (Err c.in_err-left-2.field-0.0) c.bind.ensures c.bind-2.ensures (refused_two (comparison_test c.args.comparison) c.bind.result c.in_ok-left.left c.bind-2.result c.pair_with.result c.in_err-left-2.field-0.0 c.in_ok-left.was c.pair_with.ensures c.in_err-left-2.was) in
    search (rules, whole)

pub comparison-returns : goal.comparison-returns
comparison-returns t c = two_made (comparison_test c.args.comparison) (typing c.args.self.scope.now c.args.self.params.now c.args.left.now) (typing c.args.self.scope.now c.args.self.params.now c.args.right.now) c.args.mode c.args.found.now c.bind.new.found c.bind-2.new.found c.bind.result c.bind-2.result c.comparison_test.result c.bind.ensures c.bind-2.ensures (given_two (comparison_test c.args.comparison) c.bind.result c.in_ok-left.left c.bind-2.result c.pair_with.result c.in_ok-left-2.left c.in_ok-left-2.right c.comparison_test.result c.in_ok-left.was c.pair_with.ensures c.in_ok-left-2.was c.comparison_test.ensures)

pub between-returns-in_err-operand : goal.between-returns-in_err-operand
between-returns-in_err-operand t c =
    let whole = three_stopped between (typing c.args.self.scope.now c.args.self.params.now c.args.operand.now) (typing c.args.self.scope.now c.args.self.params.now c.args.low.now) (typing c.args.self.scope.now c.args.self.params.now c.args.high.now) c.args.mode c.args.found.now c.bind.new.found c.bind.new.found c.bind.result c.in_err-operand.field-0.0 c.bind.ensures c.in_err-operand.was in
    search (rules, whole)

pub between-returns-in_err-operand-2 : goal.between-returns-in_err-operand-2
between-returns-in_err-operand-2 t c =
    let whole = three_stopped_second between (typing c.args.self.scope.now c.args.self.params.now c.args.operand.now) (typing c.args.self.scope.now c.args.self.params.now c.args.low.now) (typing c.args.self.scope.now c.args.self.params.now c.args.high.now) c.args.mode c.args.found.now c.bind.new.found c.bind-2.new.found c.bind-2.new.found c.bind.result c.in_ok-operand.operand c.bind-2.result c.in_err-operand-2.field-0.0 c.bind.ensures c.in_ok-operand.was c.bind-2.ensures (second_refused c.in_ok-operand.operand c.bind-2.result c.pair_with.result c.in_err-operand-2.field-0.0 c.pair_with.ensures c.in_err-operand-2.was) in
    search (rules, whole)

pub between-returns-in_err-operand-3 : goal.between-returns-in_err-operand-3
between-returns-in_err-operand-3 t c =
    let whole = three_made between (typing c.args.self.scope.now c.args.self.params.now c.args.operand.now) (typing c.args.self.scope.now c.args.self.params.now c.args.low.now) (typing c.args.self.scope.now c.args.self.params.now c.args.high.now) c.args.mode c.args.found.now c.bind.new.found c.bind-2.new.found c.bind-3.new.found c.bind.result c.bind-2.result c.bind-3.result (Err c.in_err-operand-3.field-0.0) c.bind.ensures c.bind-2.ensures c.bind-3.ensures (refused_three between c.bind.result c.in_ok-operand.operand c.bind-2.result c.pair_with.result c.in_ok-operand-2.operand c.in_ok-operand-2.low c.bind-3.result c.pair_with-2.result c.in_err-operand-3.field-0.0 c.in_ok-operand.was c.pair_with.ensures c.in_ok-operand-2.was c.pair_with-2.ensures c.in_err-operand-3.was) in
    search (rules, whole)

pub between-returns : goal.between-returns
between-returns t c = three_made between (typing c.args.self.scope.now c.args.self.params.now c.args.operand.now) (typing c.args.self.scope.now c.args.self.params.now c.args.low.now) (typing c.args.self.scope.now c.args.self.params.now c.args.high.now) c.args.mode c.args.found.now c.bind.new.found c.bind-2.new.found c.bind-3.new.found c.bind.result c.bind-2.result c.bind-3.result c.between.result c.bind.ensures c.bind-2.ensures c.bind-3.ensures (given_three between c.bind.result c.in_ok-operand.operand c.bind-2.result c.pair_with.result c.in_ok-operand-2.operand c.in_ok-operand-2.low c.bind-3.result c.pair_with-2.result c.in_ok-operand-3.operand c.in_ok-operand-3.low c.in_ok-operand-3.high c.between.result c.in_ok-operand.was c.pair_with.ensures c.in_ok-operand-2.was c.pair_with-2.ensures c.in_ok-operand-3.was c.between.ensures)

pub membership-returns-in_err-operand : goal.membership-returns-in_err-operand
membership-returns-in_err-operand t c =
    let whole = member_stopped (typing c.args.self.scope.now c.args.self.params.now c.args.operand.now) (map (typing c.args.self.scope.now c.args.self.params.now) c.args.members.now) c.args.mode c.args.found.now c.bind.new.found c.bind.new.found c.bind.result c.in_err-operand.field-0.0 c.bind.ensures c.in_err-operand.was in
    search (rules, whole)

pub membership-returns-in_err-operand-2 : goal.membership-returns-in_err-operand-2
membership-returns-in_err-operand-2 t c =
    let whole = member_made (typing c.args.self.scope.now c.args.self.params.now c.args.operand.now) (map (typing c.args.self.scope.now c.args.self.params.now) c.args.members.now) c.args.mode c.args.found.now c.bind.new.found c.each.new.found c.bind.result c.each.result (Err c.in_err-operand-2.field-0.0) c.bind.ensures c.each.ensures (refused_two in_list c.bind.result c.in_ok-operand.operand c.each.result c.pair_with.result c.in_err-operand-2.field-0.0 c.in_ok-operand.was c.pair_with.ensures c.in_err-operand-2.was) in
    search (rules, whole)

pub membership-returns : goal.membership-returns
membership-returns t c = member_made (typing c.args.self.scope.now c.args.self.params.now c.args.operand.now) (map (typing c.args.self.scope.now c.args.self.params.now) c.args.members.now) c.args.mode c.args.found.now c.bind.new.found c.each.new.found c.bind.result c.each.result c.in_list.result c.bind.ensures c.each.ensures (given_two in_list c.bind.result c.in_ok-operand.operand c.each.result c.pair_with.result c.in_ok-operand-2.operand c.in_ok-operand-2.members c.in_list.result c.in_ok-operand.was c.pair_with.ensures c.in_ok-operand-2.was c.in_list.ensures)

pub chain-returns-in_err-first : goal.chain-returns-in_err-first
chain-returns-in_err-first t c =
    let whole = chain_stopped (typing c.args.self.scope.now c.args.self.params.now c.args.first.now) (map (link_typing c.args.self.scope.now c.args.self.params.now) c.args.links.now) c.args.mode c.args.found.now c.bind.new.found c.bind.new.found c.bind.result c.in_err-first.field-0.0 c.bind.ensures c.in_err-first.was in
    search (rules, whole)

pub chain-returns-in_err-first-2 : goal.chain-returns-in_err-first-2
chain-returns-in_err-first-2 t c =
    let whole = chain_made (typing c.args.self.scope.now c.args.self.params.now c.args.first.now) (map (link_typing c.args.self.scope.now c.args.self.params.now) c.args.links.now) c.args.mode c.args.found.now c.bind.new.found c.links.new.found c.bind.result c.in_ok-first.first c.links.result (Err c.in_err-first-2.field-0.0) c.bind.ensures c.in_ok-first.was c.links.ensures (refused_two (λ (x : Typed) (k : TypedLinks). Ok (chain_of x k)) c.bind.result c.in_ok-first.first c.links.result c.pair_with.result c.in_err-first-2.field-0.0 c.in_ok-first.was c.pair_with.ensures c.in_err-first-2.was) in
    search (rules, whole)

pub chain-returns : goal.chain-returns
chain-returns t c = chain_made (typing c.args.self.scope.now c.args.self.params.now c.args.first.now) (map (link_typing c.args.self.scope.now c.args.self.params.now) c.args.links.now) c.args.mode c.args.found.now c.bind.new.found c.links.new.found c.bind.result c.in_ok-first.first c.links.result c.chain_of.result c.bind.ensures c.in_ok-first.was c.links.ensures (given_two (λ (x : Typed) (k : TypedLinks). Ok (chain_of x k)) c.bind.result c.in_ok-first.first c.links.result c.pair_with.result c.in_ok-first-2.first c.in_ok-first-2.chain c.chain_of.result c.in_ok-first.was c.pair_with.ensures c.in_ok-first-2.was c.chain_of.ensures)

pub conjunction-returns-in_err-first : goal.conjunction-returns-in_err-first
conjunction-returns-in_err-first t c =
    let whole = junction_stopped all_true (typing c.args.self.scope.now c.args.self.params.now c.args.first.now) (map (typing c.args.self.scope.now c.args.self.params.now) c.args.more.now) c.args.mode c.args.found.now c.bind.new.found c.bind.new.found c.bind.result c.in_err-first.field-0.0 c.bind.ensures c.in_err-first.was in
    search (rules, whole)

pub conjunction-returns-in_err-first-2 : goal.conjunction-returns-in_err-first-2
conjunction-returns-in_err-first-2 t c =
    let whole = junction_made all_true (typing c.args.self.scope.now c.args.self.params.now c.args.first.now) (map (typing c.args.self.scope.now c.args.self.params.now) c.args.more.now) c.args.mode c.args.found.now c.bind.new.found c.conditions.new.found c.bind.result c.in_ok-first.first c.conditions.result (Err c.in_err-first-2.field-0.0) c.bind.ensures c.in_ok-first.was c.conditions.ensures (refused_two (λ (x : Typed) (es : List TypedExpr). Ok (all_true x es)) c.bind.result c.in_ok-first.first c.conditions.result c.pair_with.result c.in_err-first-2.field-0.0 c.in_ok-first.was c.pair_with.ensures c.in_err-first-2.was) in
    search (rules, whole)

pub conjunction-returns : goal.conjunction-returns
conjunction-returns t c = junction_made all_true (typing c.args.self.scope.now c.args.self.params.now c.args.first.now) (map (typing c.args.self.scope.now c.args.self.params.now) c.args.more.now) c.args.mode c.args.found.now c.bind.new.found c.conditions.new.found c.bind.result c.in_ok-first.first c.conditions.result c.all_true.result c.bind.ensures c.in_ok-first.was c.conditions.ensures (given_two (λ (x : Typed) (es : List TypedExpr). Ok (all_true x es)) c.bind.result c.in_ok-first.first c.conditions.result c.pair_with.result c.in_ok-first-2.first c.in_ok-first-2.more c.all_true.result c.in_ok-first.was c.pair_with.ensures c.in_ok-first-2.was c.all_true.ensures)

pub disjunction-returns-in_err-first : goal.disjunction-returns-in_err-first
disjunction-returns-in_err-first t c =
    let whole = junction_stopped some_true (typing c.args.self.scope.now c.args.self.params.now c.args.first.now) (map (typing c.args.self.scope.now c.args.self.params.now) c.args.more.now) c.args.mode c.args.found.now c.bind.new.found c.bind.new.found c.bind.result c.in_err-first.field-0.0 c.bind.ensures c.in_err-first.was in
    search (rules, whole)

pub disjunction-returns-in_err-first-2 : goal.disjunction-returns-in_err-first-2
disjunction-returns-in_err-first-2 t c =
    let whole = junction_made some_true (typing c.args.self.scope.now c.args.self.params.now c.args.first.now) (map (typing c.args.self.scope.now c.args.self.params.now) c.args.more.now) c.args.mode c.args.found.now c.bind.new.found c.conditions.new.found c.bind.result c.in_ok-first.first c.conditions.result (Err c.in_err-first-2.field-0.0) c.bind.ensures c.in_ok-first.was c.conditions.ensures (refused_two (λ (x : Typed) (es : List TypedExpr). Ok (some_true x es)) c.bind.result c.in_ok-first.first c.conditions.result c.pair_with.result c.in_err-first-2.field-0.0 c.in_ok-first.was c.pair_with.ensures c.in_err-first-2.was) in
    search (rules, whole)

pub disjunction-returns : goal.disjunction-returns
disjunction-returns t c = junction_made some_true (typing c.args.self.scope.now c.args.self.params.now c.args.first.now) (map (typing c.args.self.scope.now c.args.self.params.now) c.args.more.now) c.args.mode c.args.found.now c.bind.new.found c.conditions.new.found c.bind.result c.in_ok-first.first c.conditions.result c.some_true.result c.bind.ensures c.in_ok-first.was c.conditions.ensures (given_two (λ (x : Typed) (es : List TypedExpr). Ok (some_true x es)) c.bind.result c.in_ok-first.first c.conditions.result c.pair_with.result c.in_ok-first-2.first c.in_ok-first-2.more c.some_true.result c.in_ok-first.was c.pair_with.ensures c.in_ok-first-2.was c.some_true.ensures)

pub condition-returns-in_err-bind : goal.condition-returns-in_err-bind
condition-returns-in_err-bind t c =
    let whole = stopped ((typing c.args.self.scope.now c.args.self.params.now c.args.operand.now) c.args.mode) (λ (x : Typed). from_result (condition_of c.args.kind x)) c.args.found.now c.bind.new.found c.bind.new.found c.bind.result c.in_err-bind.field-0.0 c.bind.ensures c.in_err-bind.was in
    search (rules, whole)

pub condition-returns : goal.condition-returns
condition-returns t c = made_of ((typing c.args.self.scope.now c.args.self.params.now c.args.operand.now) c.args.mode) (condition_of c.args.kind) c.args.found.now c.bind.new.found c.bind.result c.condition_of.result c.bind.ensures (given (condition_of c.args.kind) c.bind.result c.in_ok-bind.field-0 c.condition_of.result c.in_ok-bind.was (gives c.condition_of.result (condition_of c.args.kind c.in_ok-bind.field-0) c.condition_of.ensures))

pub arm-returns-in_err-condition : goal.arm-returns-in_err-condition
arm-returns-in_err-condition t c =
    let whole = stopped ((typing c.args.self.scope.now c.args.self.params.now c.args.arm.now.condition) c.args.mode) (λ (x : Typed). ((typing c.args.self.scope.now c.args.self.params.now c.args.arm.now.value) c.args.mode) >>= (λ (y : Typed). from_result (Ok (arm_typed x y)))) c.args.found.now c.bind.new.found c.bind.new.found c.bind.result c.in_err-condition.field-0.0 c.bind.ensures c.in_err-condition.was in
    search (rules, whole)

pub arm-returns-in_err-condition-2 : goal.arm-returns-in_err-condition-2
arm-returns-in_err-condition-2 t c =
    let whole = made_of_two ((typing c.args.self.scope.now c.args.self.params.now c.args.arm.now.condition) c.args.mode) (λ (x : Typed). ((typing c.args.self.scope.now c.args.self.params.now c.args.arm.now.value) c.args.mode)) (λ (x y : Typed). Ok (arm_typed x y)) c.args.found.now c.bind.new.found c.bind-2.new.found c.bind.result c.bind-2.result (Err c.in_err-condition-2.field-0.0) c.bind.ensures (λ x q. c.bind-2.ensures) (refused_two (λ (x y : Typed). Ok (arm_typed x y)) c.bind.result c.in_ok-condition.condition c.bind-2.result c.pair_with.result c.in_err-condition-2.field-0.0 c.in_ok-condition.was c.pair_with.ensures c.in_err-condition-2.was) in
    search (rules, whole)

pub arm-returns : goal.arm-returns
arm-returns t c = made_of_two ((typing c.args.self.scope.now c.args.self.params.now c.args.arm.now.condition) c.args.mode) (λ (x : Typed). ((typing c.args.self.scope.now c.args.self.params.now c.args.arm.now.value) c.args.mode)) (λ (x y : Typed). Ok (arm_typed x y)) c.args.found.now c.bind.new.found c.bind-2.new.found c.bind.result c.bind-2.result (Ok (arm_typed c.in_ok-condition-2.condition c.in_ok-condition-2.value)) c.bind.ensures (λ x q. c.bind-2.ensures) (given_two (λ (x y : Typed). Ok (arm_typed x y)) c.bind.result c.in_ok-condition.condition c.bind-2.result c.pair_with.result c.in_ok-condition-2.condition c.in_ok-condition-2.value (Ok (arm_typed c.in_ok-condition-2.condition c.in_ok-condition-2.value)) c.in_ok-condition.was c.pair_with.ensures c.in_ok-condition-2.was refl)

pub compared_arm-returns-in_err-bind : goal.compared_arm-returns-in_err-bind
compared_arm-returns-in_err-bind t c =
    let first = stopped ((typing c.args.self.scope.now c.args.self.params.now c.args.arm.now.condition) c.args.mode) (λ (x : Typed). from_result (check_kind c.args.kind x)) c.args.found.now c.bind.new.found c.bind.new.found c.bind.result c.in_err-bind.field-0.0 c.bind.ensures c.in_err-bind.was in
    let whole = stopped (((typing c.args.self.scope.now c.args.self.params.now c.args.arm.now.condition) c.args.mode) >>= (λ (x : Typed). from_result (check_kind c.args.kind x))) (λ (x : Typed). ((typing c.args.self.scope.now c.args.self.params.now c.args.arm.now.value) c.args.mode) >>= (λ (y : Typed). from_result (Ok (arm_typed x y)))) c.args.found.now c.bind.new.found c.bind.new.found (Err c.in_err-bind.field-0.0) c.in_err-bind.field-0.0 first refl in
    search (rules, whole)

pub compared_arm-returns-in_err-condition : goal.compared_arm-returns-in_err-condition
compared_arm-returns-in_err-condition t c =
    let first = made_of ((typing c.args.self.scope.now c.args.self.params.now c.args.arm.now.condition) c.args.mode) (check_kind c.args.kind) c.args.found.now c.bind.new.found c.bind.result c.check_kind.result c.bind.ensures (given (check_kind c.args.kind) c.bind.result c.in_ok-bind.field-0 c.check_kind.result c.in_ok-bind.was (gives c.check_kind.result (check_kind c.args.kind c.in_ok-bind.field-0) c.check_kind.ensures)) in
    let whole = stopped (((typing c.args.self.scope.now c.args.self.params.now c.args.arm.now.condition) c.args.mode) >>= (λ (x : Typed). from_result (check_kind c.args.kind x))) (λ (x : Typed). ((typing c.args.self.scope.now c.args.self.params.now c.args.arm.now.value) c.args.mode) >>= (λ (y : Typed). from_result (Ok (arm_typed x y)))) c.args.found.now c.bind.new.found c.bind.new.found c.check_kind.result c.in_err-condition.field-0.0 first c.in_err-condition.was in
    search (rules, whole)

pub compared_arm-returns-in_err-condition-2 : goal.compared_arm-returns-in_err-condition-2
compared_arm-returns-in_err-condition-2 t c =
    let first = made_of ((typing c.args.self.scope.now c.args.self.params.now c.args.arm.now.condition) c.args.mode) (check_kind c.args.kind) c.args.found.now c.bind.new.found c.bind.result c.check_kind.result c.bind.ensures (given (check_kind c.args.kind) c.bind.result c.in_ok-bind.field-0 c.check_kind.result c.in_ok-bind.was (gives c.check_kind.result (check_kind c.args.kind c.in_ok-bind.field-0) c.check_kind.ensures)) in
    let whole = made_of_two (((typing c.args.self.scope.now c.args.self.params.now c.args.arm.now.condition) c.args.mode) >>= (λ (x : Typed). from_result (check_kind c.args.kind x))) (λ (x : Typed). ((typing c.args.self.scope.now c.args.self.params.now c.args.arm.now.value) c.args.mode)) (λ (x y : Typed). Ok (arm_typed x y)) c.args.found.now c.bind.new.found c.bind-2.new.found c.check_kind.result c.bind-2.result (Err c.in_err-condition-2.field-0.0) first (λ x q. c.bind-2.ensures) (refused_two (λ (x y : Typed). Ok (arm_typed x y)) c.check_kind.result c.in_ok-condition.condition c.bind-2.result c.pair_with.result c.in_err-condition-2.field-0.0 c.in_ok-condition.was c.pair_with.ensures c.in_err-condition-2.was) in
    search (rules, whole)

pub compared_arm-returns : goal.compared_arm-returns
compared_arm-returns t c =
    let first = made_of ((typing c.args.self.scope.now c.args.self.params.now c.args.arm.now.condition) c.args.mode) (check_kind c.args.kind) c.args.found.now c.bind.new.found c.bind.result c.check_kind.result c.bind.ensures (given (check_kind c.args.kind) c.bind.result c.in_ok-bind.field-0 c.check_kind.result c.in_ok-bind.was (gives c.check_kind.result (check_kind c.args.kind c.in_ok-bind.field-0) c.check_kind.ensures)) in
    made_of_two (((typing c.args.self.scope.now c.args.self.params.now c.args.arm.now.condition) c.args.mode) >>= (λ (x : Typed). from_result (check_kind c.args.kind x))) (λ (x : Typed). ((typing c.args.self.scope.now c.args.self.params.now c.args.arm.now.value) c.args.mode)) (λ (x y : Typed). Ok (arm_typed x y)) c.args.found.now c.bind.new.found c.bind-2.new.found c.check_kind.result c.bind-2.result (Ok (arm_typed c.in_ok-condition-2.condition c.in_ok-condition-2.value)) first (λ x q. c.bind-2.ensures) (given_two (λ (x y : Typed). Ok (arm_typed x y)) c.check_kind.result c.in_ok-condition.condition c.bind-2.result c.pair_with.result c.in_ok-condition-2.condition c.in_ok-condition-2.value (Ok (arm_typed c.in_ok-condition-2.condition c.in_ok-condition-2.value)) c.in_ok-condition.was c.pair_with.ensures c.in_ok-condition-2.was refl)

-- ---- calls and choices

pub call-returns-in_err-each-in-None : goal.call-returns-in_err-each-in-None
call-returns-in_err-each-in-None t c =
    let whole = unknown_stopped (map (typing c.args.self.scope.now c.args.self.params.now) c.args.operands.now) c.args.mode c.args.found.now c.each.new.found c.each.new.found c.each.result c.in_err-each-in-None.field-0.0 c.each.ensures c.in_err-each-in-None.was in
    search (rules, whole)

pub call-returns-in_ok-each-in-None : goal.call-returns-in_ok-each-in-None
call-returns-in_ok-each-in-None t c =
    let whole = unknown_made (map (typing c.args.self.scope.now c.args.self.params.now) c.args.operands.now) c.args.mode c.args.found.now c.each.new.found c.each.result (Err refusal.TypeMismatch) c.each.ensures (given (λ (xs : List Typed). Err refusal.TypeMismatch) c.each.result c.in_ok-each-in-None.field-0 (Err refusal.TypeMismatch) c.in_ok-each-in-None.was (λ n. refl)) in
    search (rules, whole)

pub call-returns-in_err-operands-in-Some-Aggregate : goal.call-returns-in_err-operands-in-Some-Aggregate
call-returns-in_err-operands-in-Some-Aggregate t c =
    let whole = aggregate_stopped c.args.self.scope.now c.in-Some-Aggregate.function (map (typing c.args.self.scope.now c.args.self.params.now) c.args.operands.now) c.args.mode c.args.found.now c.each-in-Some-Aggregate.new.found c.each-in-Some-Aggregate.new.found c.each-in-Some-Aggregate.result c.in_err-operands-in-Some-Aggregate.field-0.0 c.each-in-Some-Aggregate.ensures c.in_err-operands-in-Some-Aggregate.was in
    search (rules, whole)

pub call-returns-in_ok-operands-in-Some-Aggregate : goal.call-returns-in_ok-operands-in-Some-Aggregate
call-returns-in_ok-operands-in-Some-Aggregate t c =
    let whole = aggregate_made c.args.self.scope.now c.in-Some-Aggregate.function (map (typing c.args.self.scope.now c.args.self.params.now) c.args.operands.now) c.args.mode c.args.found.now c.each-in-Some-Aggregate.new.found c.aggregate.new.found c.each-in-Some-Aggregate.result c.aggregate.result c.each-in-Some-Aggregate.ensures (subst (λ (o : Result (List Typed) Refusal). Leaves c.aggregate.result c.aggregate.new.found (and_then o (λ xs. aggregate c.args.self.scope.now c.args.mode c.in-Some-Aggregate.function xs c.each-in-Some-Aggregate.new.found))) (sym c.in_ok-operands-in-Some-Aggregate.was) c.aggregate.ensures) in
    search (rules, whole)

pub call-returns-in_err-operands-in-Some : goal.call-returns-in_err-operands-in-Some
call-returns-in_err-operands-in-Some t c =
    let whole = function_stopped c.in-Some.function (map (typing c.args.self.scope.now c.args.self.params.now) c.args.operands.now) c.args.mode c.args.found.now c.each-in-Some.new.found c.each-in-Some.new.found c.each-in-Some.result c.in_err-operands-in-Some.field-0.0 c.each-in-Some.ensures c.in_err-operands-in-Some.was in
    search (rules, whole)

pub call-returns-in_ok-operands-in-Some : goal.call-returns-in_ok-operands-in-Some
call-returns-in_ok-operands-in-Some t c =
    let whole = function_made c.in-Some.function (map (typing c.args.self.scope.now c.args.self.params.now) c.args.operands.now) c.args.mode c.args.found.now c.each-in-Some.new.found c.each-in-Some.result c.apply_function.result c.each-in-Some.ensures (given (apply_function c.in-Some.function) c.each-in-Some.result c.in_ok-operands-in-Some.operands c.apply_function.result c.in_ok-operands-in-Some.was c.apply_function.ensures) in
    search (rules, whole)

pub case-returns-in_err-arms-in-None : goal.case-returns-in_err-arms-in-None
case-returns-in_err-arms-in-None t c =
    let whole = searched_stopped (map (arm_typing c.args.self.scope.now c.args.self.params.now) c.args.arms.now) (option_map (typing c.args.self.scope.now c.args.self.params.now) c.args.otherwise.now) c.args.mode c.args.found.now c.arms.new.found c.arms.new.found c.arms.result c.in_err-arms-in-None.field-0.0 c.arms.ensures c.in_err-arms-in-None.was in
    search (rules, whole)

pub case-returns-in_err-arms-in-None-2 : goal.case-returns-in_err-arms-in-None-2
case-returns-in_err-arms-in-None-2 t c =
    let whole = searched_made (map (arm_typing c.args.self.scope.now c.args.self.params.now) c.args.arms.now) (option_map (typing c.args.self.scope.now c.args.self.params.now) c.args.otherwise.now) c.args.mode c.args.found.now c.arms.new.found c.optional.new.found c.arms.result c.optional.result (Err c.in_err-arms-in-None-2.field-0.0) c.arms.ensures c.optional.ensures (refused_two (λ (xs : List TypedArm) (y : Option Typed). case_of xs y) c.arms.result c.in_ok-arms-in-None.arms c.optional.result c.pair_with.result c.in_err-arms-in-None-2.field-0.0 c.in_ok-arms-in-None.was c.pair_with.ensures c.in_err-arms-in-None-2.was) in
    search (rules, whole)

pub case-returns-in_ok-arms-in-None-2 : goal.case-returns-in_ok-arms-in-None-2
case-returns-in_ok-arms-in-None-2 t c =
    let whole = searched_made (map (arm_typing c.args.self.scope.now c.args.self.params.now) c.args.arms.now) (option_map (typing c.args.self.scope.now c.args.self.params.now) c.args.otherwise.now) c.args.mode c.args.found.now c.arms.new.found c.optional.new.found c.arms.result c.optional.result c.case_of.result c.arms.ensures c.optional.ensures (given_two (λ (xs : List TypedArm) (y : Option Typed). case_of xs y) c.arms.result c.in_ok-arms-in-None.arms c.optional.result c.pair_with.result c.in_ok-arms-in-None-2.arms c.in_ok-arms-in-None-2.otherwise c.case_of.result c.in_ok-arms-in-None.was c.pair_with.ensures c.in_ok-arms-in-None-2.was c.case_of.ensures) in
    search (rules, whole)

pub case-returns-in_err-operand-in-Some : goal.case-returns-in_err-operand-in-Some
case-returns-in_err-operand-in-Some t c =
    let whole = subst (λ (o : Operand). Leaves {A = Typed} (Err c.in_err-operand-in-Some.field-0.0) c.bind.new.found (o c.args.mode c.args.found.now)) (sym (case_some (typing c.args.self.scope.now c.args.self.params.now) c.args.operand.now c.in-Some.operand c.get.result.now (map (arm_typing c.args.self.scope.now c.args.self.params.now) c.args.arms.now) (option_map (typing c.args.self.scope.now c.args.self.params.now) c.args.otherwise.now) c.in-Some.is c.get.ensures)) (simple_stopped (typing c.args.self.scope.now c.args.self.params.now c.get.result.now) (map (arm_typing c.args.self.scope.now c.args.self.params.now) c.args.arms.now) (option_map (typing c.args.self.scope.now c.args.self.params.now) c.args.otherwise.now) c.args.mode c.args.found.now c.bind.new.found c.bind.new.found c.bind.result c.in_err-operand-in-Some.field-0.0 c.bind.ensures c.in_err-operand-in-Some.was) in
    search (rules, whole)

pub case-returns-in_err-operand-in-Some-2 : goal.case-returns-in_err-operand-in-Some-2
case-returns-in_err-operand-in-Some-2 t c =
    let whole = subst (λ (o : Operand). Leaves {A = Typed} (Err c.in_err-operand-in-Some-2.field-0.0) c.compared_arms-arms.new.found (o c.args.mode c.args.found.now)) (sym (case_some (typing c.args.self.scope.now c.args.self.params.now) c.args.operand.now c.in-Some.operand c.get.result.now (map (arm_typing c.args.self.scope.now c.args.self.params.now) c.args.arms.now) (option_map (typing c.args.self.scope.now c.args.self.params.now) c.args.otherwise.now) c.in-Some.is c.get.ensures)) (simple_stopped_second (typing c.args.self.scope.now c.args.self.params.now c.get.result.now) (map (arm_typing c.args.self.scope.now c.args.self.params.now) c.args.arms.now) (option_map (typing c.args.self.scope.now c.args.self.params.now) c.args.otherwise.now) c.args.mode c.args.found.now c.bind.new.found c.compared_arms-arms.new.found c.compared_arms-arms.new.found c.bind.result c.in_ok-operand-in-Some.operand c.compared_arms-arms.result c.in_err-operand-in-Some-2.field-0.0 c.bind.ensures c.in_ok-operand-in-Some.was c.compared_arms-arms.ensures (second_refused c.in_ok-operand-in-Some.operand c.compared_arms-arms.result c.pair_with-in-Some.result c.in_err-operand-in-Some-2.field-0.0 c.pair_with-in-Some.ensures c.in_err-operand-in-Some-2.was)) in
    search (rules, whole)

pub case-returns-in_err-operand-in-Some-3 : goal.case-returns-in_err-operand-in-Some-3
case-returns-in_err-operand-in-Some-3 t c =
    let whole = subst (λ (o : Operand). Leaves {A = Typed} (Err c.in_err-operand-in-Some-3.field-0.0) c.optional-otherwise.new.found (o c.args.mode c.args.found.now)) (sym (case_some (typing c.args.self.scope.now c.args.self.params.now) c.args.operand.now c.in-Some.operand c.get.result.now (map (arm_typing c.args.self.scope.now c.args.self.params.now) c.args.arms.now) (option_map (typing c.args.self.scope.now c.args.self.params.now) c.args.otherwise.now) c.in-Some.is c.get.ensures)) (simple_made (typing c.args.self.scope.now c.args.self.params.now c.get.result.now) (map (arm_typing c.args.self.scope.now c.args.self.params.now) c.args.arms.now) (option_map (typing c.args.self.scope.now c.args.self.params.now) c.args.otherwise.now) c.args.mode c.args.found.now c.bind.new.found c.compared_arms-arms.new.found c.optional-otherwise.new.found c.bind.result c.in_ok-operand-in-Some.operand c.compared_arms-arms.result c.optional-otherwise.result (Err c.in_err-operand-in-Some-3.field-0.0) c.bind.ensures c.in_ok-operand-in-Some.was c.compared_arms-arms.ensures c.optional-otherwise.ensures (refused_three (λ (x : Typed) (xs : List TypedArm) (y : Option Typed). match_of x xs y) c.bind.result c.in_ok-operand-in-Some.operand c.compared_arms-arms.result c.pair_with-in-Some.result c.in_ok-operand-in-Some-2.operand c.in_ok-operand-in-Some-2.arms c.optional-otherwise.result c.pair_with-in-Some-2.result c.in_err-operand-in-Some-3.field-0.0 c.in_ok-operand-in-Some.was c.pair_with-in-Some.ensures c.in_ok-operand-in-Some-2.was c.pair_with-in-Some-2.ensures c.in_err-operand-in-Some-3.was)) in
    search (rules, whole)

pub case-returns-in_ok-operand-in-Some-3 : goal.case-returns-in_ok-operand-in-Some-3
case-returns-in_ok-operand-in-Some-3 t c = subst (λ (o : Operand). Leaves {A = Typed} c.match_of.result c.optional-otherwise.new.found (o c.args.mode c.args.found.now)) (sym (case_some (typing c.args.self.scope.now c.args.self.params.now) c.args.operand.now c.in-Some.operand c.get.result.now (map (arm_typing c.args.self.scope.now c.args.self.params.now) c.args.arms.now) (option_map (typing c.args.self.scope.now c.args.self.params.now) c.args.otherwise.now) c.in-Some.is c.get.ensures)) (simple_made (typing c.args.self.scope.now c.args.self.params.now c.get.result.now) (map (arm_typing c.args.self.scope.now c.args.self.params.now) c.args.arms.now) (option_map (typing c.args.self.scope.now c.args.self.params.now) c.args.otherwise.now) c.args.mode c.args.found.now c.bind.new.found c.compared_arms-arms.new.found c.optional-otherwise.new.found c.bind.result c.in_ok-operand-in-Some.operand c.compared_arms-arms.result c.optional-otherwise.result c.match_of.result c.bind.ensures c.in_ok-operand-in-Some.was c.compared_arms-arms.ensures c.optional-otherwise.ensures (given_three (λ (x : Typed) (xs : List TypedArm) (y : Option Typed). match_of x xs y) c.bind.result c.in_ok-operand-in-Some.operand c.compared_arms-arms.result c.pair_with-in-Some.result c.in_ok-operand-in-Some-2.operand c.in_ok-operand-in-Some-2.arms c.optional-otherwise.result c.pair_with-in-Some-2.result c.in_ok-operand-in-Some-3.operand c.in_ok-operand-in-Some-3.arms c.in_ok-operand-in-Some-3.otherwise c.match_of.result c.in_ok-operand-in-Some.was c.pair_with-in-Some.ensures c.in_ok-operand-in-Some-2.was c.pair_with-in-Some-2.ensures c.in_ok-operand-in-Some-3.was c.match_of.ensures))

-- ---- the layers of a tree

pub bind-returns-in_err-bind-in-Negative : goal.bind-returns-in_err-bind-in-Negative
bind-returns-in_err-bind-in-Negative t c =
    let is = negative_read c.args.self.scope.now c.args.self.params.now c.args.tree.now c.in-Negative.a c.get.result.now c.in-Negative.is c.get.ensures in
    let whole = subst (λ (o : Operand). Leaves {A = Typed} (Err c.in_err-bind-in-Negative.field-0.0) c.bind.new.found (o c.args.mode c.args.found.now)) (sym is) (one_stopped unary_minus (typing c.args.self.scope.now c.args.self.params.now c.get.result.now) c.args.mode c.args.found.now c.bind.new.found c.bind.new.found c.bind.result c.in_err-bind-in-Negative.field-0.0 c.bind.ensures c.in_err-bind-in-Negative.was) in
    search (rules, whole)

pub bind-returns-in_ok-bind-in-Negative : goal.bind-returns-in_ok-bind-in-Negative
bind-returns-in_ok-bind-in-Negative t c =
    let is = negative_read c.args.self.scope.now c.args.self.params.now c.args.tree.now c.in-Negative.a c.get.result.now c.in-Negative.is c.get.ensures in
    subst (λ (o : Operand). Leaves c.unary_minus.result c.bind.new.found (o c.args.mode c.args.found.now)) (sym is) (one_made unary_minus (typing c.args.self.scope.now c.args.self.params.now c.get.result.now) c.args.mode c.args.found.now c.bind.new.found c.bind.result c.unary_minus.result c.bind.ensures (given unary_minus c.bind.result c.in_ok-bind-in-Negative.field-0 c.unary_minus.result c.in_ok-bind-in-Negative.was c.unary_minus.ensures))

pub bind-returns-in_err-bind-in-IsNull : goal.bind-returns-in_err-bind-in-IsNull
bind-returns-in_err-bind-in-IsNull t c =
    let is = null_test_read c.args.self.scope.now c.args.self.params.now c.args.tree.now c.in-IsNull.a c.get-in-IsNull.result.now c.in-IsNull.is c.get-in-IsNull.ensures in
    let whole = subst (λ (o : Operand). Leaves {A = Typed} (Err c.in_err-bind-in-IsNull.field-0.0) c.bind-in-IsNull.new.found (o c.args.mode c.args.found.now)) (sym is) (one_stopped (λ (x : Typed). Ok (null_test x)) (typing c.args.self.scope.now c.args.self.params.now c.get-in-IsNull.result.now) c.args.mode c.args.found.now c.bind-in-IsNull.new.found c.bind-in-IsNull.new.found c.bind-in-IsNull.result c.in_err-bind-in-IsNull.field-0.0 c.bind-in-IsNull.ensures c.in_err-bind-in-IsNull.was) in
    search (rules, whole)

pub bind-returns-in_ok-bind-in-IsNull : goal.bind-returns-in_ok-bind-in-IsNull
bind-returns-in_ok-bind-in-IsNull t c =
    let is = null_test_read c.args.self.scope.now c.args.self.params.now c.args.tree.now c.in-IsNull.a c.get-in-IsNull.result.now c.in-IsNull.is c.get-in-IsNull.ensures in
    subst (λ (o : Operand). Leaves c.null_test.result c.bind-in-IsNull.new.found (o c.args.mode c.args.found.now)) (sym is) (one_made (λ (x : Typed). Ok (null_test x)) (typing c.args.self.scope.now c.args.self.params.now c.get-in-IsNull.result.now) c.args.mode c.args.found.now c.bind-in-IsNull.new.found c.bind-in-IsNull.result c.null_test.result c.bind-in-IsNull.ensures (given (λ (x : Typed). Ok (null_test x)) c.bind-in-IsNull.result c.in_ok-bind-in-IsNull.field-0 c.null_test.result c.in_ok-bind-in-IsNull.was c.null_test.ensures))

pub bind-returns-in_err-bind-in-Like : goal.bind-returns-in_err-bind-in-Like
bind-returns-in_err-bind-in-Like t c =
    let is = like_read c.args.self.scope.now c.args.self.params.now c.args.tree.now c.in-Like.a c.get-in-Like.result.now c.in-Like.pattern c.in-Like.pattern.text c.in-Like.is c.get-in-Like.ensures refl in
    let whole = subst (λ (o : Operand). Leaves {A = Typed} (Err c.in_err-bind-in-Like.field-0.0) c.bind-in-Like.new.found (o c.args.mode c.args.found.now)) (sym is) (one_stopped (like_test c.in-Like.pattern.text) (typing c.args.self.scope.now c.args.self.params.now c.get-in-Like.result.now) c.args.mode c.args.found.now c.bind-in-Like.new.found c.bind-in-Like.new.found c.bind-in-Like.result c.in_err-bind-in-Like.field-0.0 c.bind-in-Like.ensures c.in_err-bind-in-Like.was) in
    search (rules, whole)

pub bind-returns-in_ok-bind-in-Like : goal.bind-returns-in_ok-bind-in-Like
bind-returns-in_ok-bind-in-Like t c =
    let is = like_read c.args.self.scope.now c.args.self.params.now c.args.tree.now c.in-Like.a c.get-in-Like.result.now c.in-Like.pattern c.as_str-in-Like.result.now c.in-Like.is c.get-in-Like.ensures c.as_str-in-Like.ensures in
    subst (λ (o : Operand). Leaves c.like_test.result c.bind-in-Like.new.found (o c.args.mode c.args.found.now)) (sym is) (one_made (like_test c.as_str-in-Like.result.now) (typing c.args.self.scope.now c.args.self.params.now c.get-in-Like.result.now) c.args.mode c.args.found.now c.bind-in-Like.new.found c.bind-in-Like.result c.like_test.result c.bind-in-Like.ensures (given (like_test c.as_str-in-Like.result.now) c.bind-in-Like.result c.in_ok-bind-in-Like.field-0 c.like_test.result c.in_ok-bind-in-Like.was c.like_test.ensures))

pub bind-returns-in_err-bind-in-Not : goal.bind-returns-in_err-bind-in-Not
bind-returns-in_err-bind-in-Not t c =
    let is = denied_read c.args.self.scope.now c.args.self.params.now c.args.tree.now c.in-Not.a c.get-in-Not.result.now c.in-Not.is c.get-in-Not.ensures in
    let whole = subst (λ (o : Operand). Leaves {A = Typed} (Err c.in_err-bind-in-Not.field-0.0) c.bind-in-Not.new.found (o c.args.mode c.args.found.now)) (sym is) (one_stopped logical_not (typing c.args.self.scope.now c.args.self.params.now c.get-in-Not.result.now) c.args.mode c.args.found.now c.bind-in-Not.new.found c.bind-in-Not.new.found c.bind-in-Not.result c.in_err-bind-in-Not.field-0.0 c.bind-in-Not.ensures c.in_err-bind-in-Not.was) in
    search (rules, whole)

pub bind-returns-in_ok-bind-in-Not : goal.bind-returns-in_ok-bind-in-Not
bind-returns-in_ok-bind-in-Not t c =
    let is = denied_read c.args.self.scope.now c.args.self.params.now c.args.tree.now c.in-Not.a c.get-in-Not.result.now c.in-Not.is c.get-in-Not.ensures in
    subst (λ (o : Operand). Leaves c.logical_not.result c.bind-in-Not.new.found (o c.args.mode c.args.found.now)) (sym is) (one_made logical_not (typing c.args.self.scope.now c.args.self.params.now c.get-in-Not.result.now) c.args.mode c.args.found.now c.bind-in-Not.new.found c.bind-in-Not.result c.logical_not.result c.bind-in-Not.ensures (given logical_not c.bind-in-Not.result c.in_ok-bind-in-Not.field-0 c.logical_not.result c.in_ok-bind-in-Not.was c.logical_not.ensures))

pub bind-returns-in-Chain : goal.bind-returns-in-Chain
bind-returns-in-Chain t c =
    let is = chain_read c.args.self.scope.now c.args.self.params.now c.args.tree.now c.in-Chain.first c.get-in-Chain.result.now c.in-Chain.links c.as_slice-in-Chain.result.now c.in-Chain.is c.get-in-Chain.ensures c.as_slice-in-Chain.ensures in
    subst (λ (o : Operand). Leaves c.chain.result c.chain.new.found (o c.args.mode c.args.found.now)) (sym is) c.chain.ensures

pub bind-returns-in-Case : goal.bind-returns-in-Case
bind-returns-in-Case t c =
    let is = case_read c.args.self.scope.now c.args.self.params.now c.args.tree.now c.in-Case.operand c.in-Case.arms c.as_slice-in-Case.result.now c.in-Case.otherwise c.in-Case.is c.as_slice-in-Case.ensures in
    subst (λ (o : Operand). Leaves c.case.result c.case.new.found (o c.args.mode c.args.found.now)) (sym is) c.case.ensures

-- ---- lists of operands

-- ---- lists of operands

pub each-bind-next-requires : goal.each-bind-next-requires
each-bind-next-requires t c =
    let below = smaller_at size c.args.operands.now c.loop-operand.operand-index c.operand-item.result c.loop-operand-test.true c.operand-item.is in
    omega (arith, below)

pub each-loop-operand-preserved : goal.each-loop-operand-preserved
each-loop-operand-preserved t c =
    let step : List Typed → Operand → TypingStep (List Aggregate) (List Typed) = append_step (λ (a : Operand). a c.args.mode) in
    let turn = made_of (typing c.args.self.scope.now c.args.self.params.now c.operand-item.result c.args.mode) (λ (x : Typed). Ok (c.loop-operand.all ++ (x ∷ []))) c.loop-operand.found c.bind-next.new.found c.bind-next.result c.push_result.result c.bind-next.ensures c.push_result.ensures in
    taken step (typing c.args.self.scope.now c.args.self.params.now) c.args.operands.now c.loop-operand.operand-index c.operand-item.result c.loop-operand.all c.in_ok-all.all c.loop-operand.found c.bind-next.new.found _ c.push_result.result c.loop-operand-test.true c.operand-item.is c.loop-operand.invariant turn c.in_ok-all.was

pub each-returns-in_err-all : goal.each-returns-in_err-all
each-returns-in_err-all t c =
    let step : List Typed → Operand → TypingStep (List Aggregate) (List Typed) = append_step (λ (a : Operand). a c.args.mode) in
    let turn = made_of (typing c.args.self.scope.now c.args.self.params.now c.operand-item.result c.args.mode) (λ (x : Typed). Ok (c.loop-operand.all ++ (x ∷ []))) c.loop-operand.found c.bind-next.new.found c.bind-next.result c.push_result.result c.bind-next.ensures c.push_result.ensures in
    let whole = refused step (typing c.args.self.scope.now c.args.self.params.now) c.args.operands.now c.loop-operand.operand-index c.operand-item.result c.loop-operand.all c.in_err-all.field-0.0 c.loop-operand.found c.bind-next.new.found c.bind-next.new.found _ c.push_result.result c.loop-operand-test.true c.operand-item.is c.loop-operand.invariant turn c.in_err-all.was in
    search (rules, whole)

pub conditions-condition-next-requires : goal.conditions-condition-next-requires
conditions-condition-next-requires t c =
    let below : size c.operand-item.result < all_sizes (map size c.args.operands.now) = smaller_at size c.args.operands.now c.loop-operand.operand-index c.operand-item.result c.loop-operand-test.true c.operand-item.is in
    omega (arith, below)

pub conditions-loop-operand-preserved : goal.conditions-loop-operand-preserved
conditions-loop-operand-preserved t c =
    let step : List TypedExpr → Operand → TypingStep (List Aggregate) (List TypedExpr) = append_step (λ (a : Operand). condition c.args.kind a c.args.mode) in
    let turn = made_of (condition c.args.kind (typing c.args.self.scope.now c.args.self.params.now c.operand-item.result) c.args.mode) (λ (x : TypedExpr). Ok (c.loop-operand.all ++ (x ∷ []))) c.loop-operand.found c.condition-next.new.found c.condition-next.result c.push_result.result c.condition-next.ensures c.push_result.ensures in
    taken step (typing c.args.self.scope.now c.args.self.params.now) c.args.operands.now c.loop-operand.operand-index c.operand-item.result c.loop-operand.all c.in_ok-all.all c.loop-operand.found c.condition-next.new.found _ c.push_result.result c.loop-operand-test.true c.operand-item.is c.loop-operand.invariant turn c.in_ok-all.was

pub conditions-returns-in_err-all : goal.conditions-returns-in_err-all
conditions-returns-in_err-all t c =
    let step : List TypedExpr → Operand → TypingStep (List Aggregate) (List TypedExpr) = append_step (λ (a : Operand). condition c.args.kind a c.args.mode) in
    let turn = made_of (condition c.args.kind (typing c.args.self.scope.now c.args.self.params.now c.operand-item.result) c.args.mode) (λ (x : TypedExpr). Ok (c.loop-operand.all ++ (x ∷ []))) c.loop-operand.found c.condition-next.new.found c.condition-next.result c.push_result.result c.condition-next.ensures c.push_result.ensures in
    let whole = refused step (typing c.args.self.scope.now c.args.self.params.now) c.args.operands.now c.loop-operand.operand-index c.operand-item.result c.loop-operand.all c.in_err-all.field-0.0 c.loop-operand.found c.condition-next.new.found c.condition-next.new.found _ c.push_result.result c.loop-operand-test.true c.operand-item.is c.loop-operand.invariant turn c.in_err-all.was in
    search (rules, whole)

pub arms-arm-next-requires : goal.arms-arm-next-requires
arms-arm-next-requires t c =
    let below : arm_size c.arm-item.result < all_sizes (map arm_size c.args.arms.now) = smaller_at arm_size c.args.arms.now c.loop-arm.arm-index c.arm-item.result c.loop-arm-test.true c.arm-item.is in
    omega (arith, below)

pub arms-loop-arm-preserved : goal.arms-loop-arm-preserved
arms-loop-arm-preserved t c =
    let step : List TypedArm → Operand × Operand → TypingStep (List Aggregate) (List TypedArm) = append_step (λ (a : Operand × Operand). arm a c.args.mode) in
    let turn = made_of (arm (arm_typing c.args.self.scope.now c.args.self.params.now c.arm-item.result) c.args.mode) (λ (x : TypedArm). Ok (c.loop-arm.all ++ (x ∷ []))) c.loop-arm.found c.arm-next.new.found c.arm-next.result c.push_result.result c.arm-next.ensures c.push_result.ensures in
    taken step (arm_typing c.args.self.scope.now c.args.self.params.now) c.args.arms.now c.loop-arm.arm-index c.arm-item.result c.loop-arm.all c.in_ok-all.all c.loop-arm.found c.arm-next.new.found _ c.push_result.result c.loop-arm-test.true c.arm-item.is c.loop-arm.invariant turn c.in_ok-all.was

pub arms-returns-in_err-all : goal.arms-returns-in_err-all
arms-returns-in_err-all t c =
    let step : List TypedArm → Operand × Operand → TypingStep (List Aggregate) (List TypedArm) = append_step (λ (a : Operand × Operand). arm a c.args.mode) in
    let turn = made_of (arm (arm_typing c.args.self.scope.now c.args.self.params.now c.arm-item.result) c.args.mode) (λ (x : TypedArm). Ok (c.loop-arm.all ++ (x ∷ []))) c.loop-arm.found c.arm-next.new.found c.arm-next.result c.push_result.result c.arm-next.ensures c.push_result.ensures in
    let whole = refused step (arm_typing c.args.self.scope.now c.args.self.params.now) c.args.arms.now c.loop-arm.arm-index c.arm-item.result c.loop-arm.all c.in_err-all.field-0.0 c.loop-arm.found c.arm-next.new.found c.arm-next.new.found _ c.push_result.result c.loop-arm-test.true c.arm-item.is c.loop-arm.invariant turn c.in_err-all.was in
    search (rules, whole)

pub compared_arms-compared_arm-next-requires : goal.compared_arms-compared_arm-next-requires
compared_arms-compared_arm-next-requires t c =
    let below : arm_size c.arm-item.result < all_sizes (map arm_size c.args.arms.now) = smaller_at arm_size c.args.arms.now c.loop-arm.arm-index c.arm-item.result c.loop-arm-test.true c.arm-item.is in
    omega (arith, below)

pub compared_arms-loop-arm-preserved : goal.compared_arms-loop-arm-preserved
compared_arms-loop-arm-preserved t c =
    let step : List TypedArm → Operand × Operand → TypingStep (List Aggregate) (List TypedArm) = append_step (λ (a : Operand × Operand). compared_arm c.args.kind a c.args.mode) in
    let turn = made_of (compared_arm c.args.kind (arm_typing c.args.self.scope.now c.args.self.params.now c.arm-item.result) c.args.mode) (λ (x : TypedArm). Ok (c.loop-arm.all ++ (x ∷ []))) c.loop-arm.found c.compared_arm-next.new.found c.compared_arm-next.result c.push_result.result c.compared_arm-next.ensures c.push_result.ensures in
    taken step (arm_typing c.args.self.scope.now c.args.self.params.now) c.args.arms.now c.loop-arm.arm-index c.arm-item.result c.loop-arm.all c.in_ok-all.all c.loop-arm.found c.compared_arm-next.new.found _ c.push_result.result c.loop-arm-test.true c.arm-item.is c.loop-arm.invariant turn c.in_ok-all.was

pub compared_arms-returns-in_err-all : goal.compared_arms-returns-in_err-all
compared_arms-returns-in_err-all t c =
    let step : List TypedArm → Operand × Operand → TypingStep (List Aggregate) (List TypedArm) = append_step (λ (a : Operand × Operand). compared_arm c.args.kind a c.args.mode) in
    let turn = made_of (compared_arm c.args.kind (arm_typing c.args.self.scope.now c.args.self.params.now c.arm-item.result) c.args.mode) (λ (x : TypedArm). Ok (c.loop-arm.all ++ (x ∷ []))) c.loop-arm.found c.compared_arm-next.new.found c.compared_arm-next.result c.push_result.result c.compared_arm-next.ensures c.push_result.ensures in
    let whole = refused step (arm_typing c.args.self.scope.now c.args.self.params.now) c.args.arms.now c.loop-arm.arm-index c.arm-item.result c.loop-arm.all c.in_err-all.field-0.0 c.loop-arm.found c.compared_arm-next.new.found c.compared_arm-next.new.found _ c.push_result.result c.loop-arm-test.true c.arm-item.is c.loop-arm.invariant turn c.in_err-all.was in
    search (rules, whole)

pub links-bind-operand-requires : goal.links-bind-operand-requires
links-bind-operand-requires t c =
    let below : link_size c.link-item.result < all_sizes (map link_size c.args.links.now) = smaller_at link_size c.args.links.now c.loop-link.link-index c.link-item.result c.loop-link-test.true c.link-item.is in
    omega (arith, below)

pub links-loop-link-preserved : goal.links-loop-link-preserved
links-loop-link-preserved t c =
    let step : TypedLinks → Operator × Operand → TypingStep (List Aggregate) TypedLinks = next_link c.args.mode in
    let turn = made_of ((typing c.args.self.scope.now c.args.self.params.now c.link-item.result.operand) c.args.mode) (append_link c.loop-link.chain c.link-item.result.operator) c.loop-link.found c.bind-operand.new.found c.bind-operand.result c.append_link.result c.bind-operand.ensures (given_with (λ (k : TypedLinks) (x : Typed). append_link k c.link-item.result.operator x) c.loop-link.chain c.bind-operand.result c.pair_with.result c.in_ok-so_far.so_far c.in_ok-so_far.operand c.append_link.result c.pair_with.ensures c.in_ok-so_far.was c.append_link.ensures) in
    taken step (link_typing c.args.self.scope.now c.args.self.params.now) c.args.links.now c.loop-link.link-index c.link-item.result c.loop-link.chain c.in_ok-chain.chain c.loop-link.found c.bind-operand.new.found _ c.append_link.result c.loop-link-test.true c.link-item.is c.loop-link.invariant turn c.in_ok-chain.was

pub links-returns-in_err-chain : goal.links-returns-in_err-chain
links-returns-in_err-chain t c =
    let step : TypedLinks → Operator × Operand → TypingStep (List Aggregate) TypedLinks = next_link c.args.mode in
    let turn = made_of ((typing c.args.self.scope.now c.args.self.params.now c.link-item.result.operand) c.args.mode) (append_link c.loop-link.chain c.link-item.result.operator) c.loop-link.found c.bind-operand.new.found c.bind-operand.result c.append_link.result c.bind-operand.ensures (given_with (λ (k : TypedLinks) (x : Typed). append_link k c.link-item.result.operator x) c.loop-link.chain c.bind-operand.result c.pair_with.result c.in_ok-so_far.so_far c.in_ok-so_far.operand c.append_link.result c.pair_with.ensures c.in_ok-so_far.was c.append_link.ensures) in
    let whole = refused step (link_typing c.args.self.scope.now c.args.self.params.now) c.args.links.now c.loop-link.link-index c.link-item.result c.loop-link.chain c.in_err-chain.field-0.0 c.loop-link.found c.bind-operand.new.found c.bind-operand.new.found _ c.append_link.result c.loop-link-test.true c.link-item.is c.loop-link.invariant turn c.in_err-chain.was in
    search (rules, whole)

pub links-returns-in_err-so_far : goal.links-returns-in_err-so_far
links-returns-in_err-so_far t c =
    let step : TypedLinks → Operator × Operand → TypingStep (List Aggregate) TypedLinks = next_link c.args.mode in
    let turn = made_of ((typing c.args.self.scope.now c.args.self.params.now c.link-item.result.operand) c.args.mode) (append_link c.loop-link.chain c.link-item.result.operator) c.loop-link.found c.bind-operand.new.found c.bind-operand.result (Err c.in_err-so_far.field-0.0) c.bind-operand.ensures (refused_with (append_link c.loop-link.chain c.link-item.result.operator) c.loop-link.chain c.bind-operand.result c.pair_with.result c.in_err-so_far.field-0.0 c.pair_with.ensures c.in_err-so_far.was) in
    let whole = refused step (link_typing c.args.self.scope.now c.args.self.params.now) c.args.links.now c.loop-link.link-index c.link-item.result c.loop-link.chain c.in_err-so_far.field-0.0 c.loop-link.found c.bind-operand.new.found c.bind-operand.new.found _ (Err c.in_err-so_far.field-0.0) c.loop-link-test.true c.link-item.is c.loop-link.invariant turn refl in
    search (rules, whole)
