use Rattle.std.proofs.Common.{rules, ◌≡◌, refl, ap, ◌∙◌, sym, map, drop, ◌+◌, List, subst, Err, Bool, ◌||◌}
use Rattle.std.specs.Bool.{IsTrue}
use Rattle.std.specs.List.{fold}
use Rattle.span_value.specs.declared.truth.Outcome.{Outcome}
use Rattle.span_value.specs.declared.truth.Outcome.TheVariants.{Val}
use Rattle.span_expr.specs.declared.expr.Link.{Link}
use Rattle.span_expr.specs.Cells.{owned_value, Gives}
use Rattle.span_expr.specs.Meaning.{val, link_val, apply_link, arm_val, case_value, match_value, or_null_outcome}
use Rattle.span_eval.proofs.Loops.{chain_step, err_stays, chosen_step, matched_step, tells_first, tells_second, tells_err, case_is, match_is}
use Rattle.std.specs.Option.{option_map}
use Rattle.span_expr.specs.Outcomes.{strict, if_true}
use Rattle.span_expr.specs.Operators.{compare_values}
use Rattle.span_expr.specs.declared.expr.Comparison.TheVariants.{Equal}
use Rattle.span_expr.specs.declared.expr.Expr.{Expr}
use Rattle.span_expr.specs.declared.condition.Condition.{Condition}
use Rattle.span_expr.specs.Outcomes.{both, either, condition_of}
use Rattle.span_expr.specs.Meaning.{and_also, or_else, or_equal}
use Rattle.span_expr.specs.Memory.{is_memory, is_out_of_memory, is_concatenation, has_concatenation, any_concatenation, any_link_concatenation, any_arm_concatenation}
use Rattle.span_eval.proofs.Concatenations.{by_two, by_three, operand_has, link_has, condition_has, value_has, chain_has, compare_has, prefix_has, between_has, in_has, and_has, or_has, else_has, case_has, match_has, folded_step}
use Rattle.std.proofs.lemmas.Bool.{or_right, or_left}
use Rattle.span_eval.proofs.eval.+eval.Goals as goal

pub apply_links-loop-link-preserved : goal.apply_links-loop-link-preserved
apply_links-loop-link-preserved t c o given =
    c.loop-link.invariant o given
    ∙ chain_step c.args.row.now c.args.links.now c.loop-link.link-index c.link-item.result (owned_value c.loop-link.so_far) c.loop-link-test.true c.link-item.is
    ∙ ap (λ (s : Outcome). fold apply_link s (map (link_val c.args.row.now) (drop (c.loop-link.link-index + 1) c.args.links.now))) (c.in_ok-so_far-2.ensures.value (val c.args.row.now c.link-item.result.operand) c.evaluate-operand.ensures.value)

pub apply_links-returns-in_err-so_far-2-clause-value : goal.apply_links-returns-in_err-so_far-2-clause-value
apply_links-returns-in_err-so_far-2-clause-value t c o given =
    let rest : List (Link Outcome) = map (link_val c.args.row.now) (drop (c.loop-link.link-index + 1) c.args.links.now) in
    let so_far : Outcome = apply_link (Val (owned_value c.loop-link.so_far)) (link_val c.args.row.now c.link-item.result) in
    let is : fold apply_link o (map (link_val c.args.row.now) c.args.links.now) ≡ fold apply_link so_far rest =
    c.loop-link.invariant o given ∙ chain_step c.args.row.now c.args.links.now c.loop-link.link-index c.link-item.result (owned_value c.loop-link.so_far) c.loop-link-test.true c.link-item.is in
    let gives : Gives (Err c.in_err-so_far-2.field-0.0) (fold apply_link so_far rest) = err_stays c.in_err-so_far-2.field-0.0 so_far rest (c.in_err-so_far-2.ensures.value (val c.args.row.now c.link-item.result.operand) c.evaluate-operand.ensures.value) in
    let whole : Gives (Err c.in_err-so_far-2.field-0.0) (fold apply_link o (map (link_val c.args.row.now) c.args.links.now)) = subst (λ (x : Outcome). Gives (Err c.in_err-so_far-2.field-0.0) x) (sym is) gives in
    search (rules, whole)

pub case_value-returns-in-Ok-true-clause-value : goal.case_value-returns-in-Ok-true-clause-value
case_value-returns-in-Ok-true-clause-value t c o =
    let rest : Outcome = case_value (map (arm_val c.args.row.now) (drop (c.loop-arm.arm-index + 1) c.args.arms.now)) o in
    let is : case_value (map (arm_val c.args.row.now) c.args.arms.now) o ≡ val c.args.row.now c.arm-item.result.value =
    c.loop-arm.invariant o
    ∙ chosen_step c.args.row.now c.args.arms.now c.loop-arm.arm-index c.arm-item.result o c.loop-arm-test.true c.arm-item.is
    ∙ tells_first (val c.args.row.now c.arm-item.result.condition) (val c.args.row.now c.arm-item.result.value) rest c.in-Ok-true.field-0 (c.in-Ok-true.ensures.value (val c.args.row.now c.arm-item.result.condition) c.evaluate.ensures.value) c.in-Ok-true.field-0-test in
    subst (λ (x : Outcome). Gives c.evaluate-in-Ok-true.result x) (sym is) c.evaluate-in-Ok-true.ensures.value

pub case_value-returns-in-Err-clause-value : goal.case_value-returns-in-Err-clause-value
case_value-returns-in-Err-clause-value t c o =
    let rest : Outcome = case_value (map (arm_val c.args.row.now) (drop (c.loop-arm.arm-index + 1) c.args.arms.now)) o in
    let is : case_value (map (arm_val c.args.row.now) c.args.arms.now) o ≡ if_true (val c.args.row.now c.arm-item.result.condition) (val c.args.row.now c.arm-item.result.value) rest =
    c.loop-arm.invariant o
    ∙ chosen_step c.args.row.now c.args.arms.now c.loop-arm.arm-index c.arm-item.result o c.loop-arm-test.true c.arm-item.is in
    subst (λ (x : Outcome). Gives (Err c.in-Err.why) x) (sym is)
    (tells_err c.in-Err.why (val c.args.row.now c.arm-item.result.condition) (val c.args.row.now c.arm-item.result.value) rest (c.in-Err.ensures.value (val c.args.row.now c.arm-item.result.condition) c.evaluate.ensures.value))

pub case_value-loop-arm-preserved : goal.case_value-loop-arm-preserved
case_value-loop-arm-preserved t c o =
    let rest : Outcome = case_value (map (arm_val c.args.row.now) (drop (c.loop-arm.arm-index + 1) c.args.arms.now)) o in
    c.loop-arm.invariant o
    ∙ chosen_step c.args.row.now c.args.arms.now c.loop-arm.arm-index c.arm-item.result o c.loop-arm-test.true c.arm-item.is
    ∙ tells_second (val c.args.row.now c.arm-item.result.condition) (val c.args.row.now c.arm-item.result.value) rest c.in-Ok-false.field-0 (c.in-Ok-false.ensures.value (val c.args.row.now c.arm-item.result.condition) c.evaluate.ensures.value) c.in-Ok-false.field-0-test

pub match_value-returns-in-Ok-true-clause-value : goal.match_value-returns-in-Ok-true-clause-value
match_value-returns-in-Ok-true-clause-value t c x given o =
    let condition : Outcome = strict (compare_values Equal) x (val c.args.row.now c.arm-item.result.condition) in
    let rest : Outcome = match_value x (map (arm_val c.args.row.now) (drop (c.loop-arm.arm-index + 1) c.args.arms.now)) o in
    let is : match_value x (map (arm_val c.args.row.now) c.args.arms.now) o ≡ val c.args.row.now c.arm-item.result.value =
    c.loop-arm.invariant x o given
    ∙ matched_step x c.args.row.now c.args.arms.now c.loop-arm.arm-index c.arm-item.result o c.loop-arm-test.true c.arm-item.is
    ∙ tells_first condition (val c.args.row.now c.arm-item.result.value) rest c.in-Ok-true.field-0 (c.in-Ok-true.ensures.value condition (c.compare_lent-equal.ensures.value x (val c.args.row.now c.arm-item.result.condition) given c.evaluate.ensures.value)) c.in-Ok-true.field-0-test in
    subst (λ (y : Outcome). Gives c.evaluate-in-Ok-true.result y) (sym is) c.evaluate-in-Ok-true.ensures.value

pub match_value-returns-in-Err-clause-value : goal.match_value-returns-in-Err-clause-value
match_value-returns-in-Err-clause-value t c x given o =
    let condition : Outcome = strict (compare_values Equal) x (val c.args.row.now c.arm-item.result.condition) in
    let rest : Outcome = match_value x (map (arm_val c.args.row.now) (drop (c.loop-arm.arm-index + 1) c.args.arms.now)) o in
    let is : match_value x (map (arm_val c.args.row.now) c.args.arms.now) o ≡ if_true condition (val c.args.row.now c.arm-item.result.value) rest =
    c.loop-arm.invariant x o given
    ∙ matched_step x c.args.row.now c.args.arms.now c.loop-arm.arm-index c.arm-item.result o c.loop-arm-test.true c.arm-item.is in
    subst (λ (y : Outcome). Gives (Err c.in-Err.why) y) (sym is)
    (tells_err c.in-Err.why condition (val c.args.row.now c.arm-item.result.value) rest (c.in-Err.ensures.value condition (c.compare_lent-equal.ensures.value x (val c.args.row.now c.arm-item.result.condition) given c.evaluate.ensures.value)))

pub match_value-loop-arm-preserved : goal.match_value-loop-arm-preserved
match_value-loop-arm-preserved t c x o given =
    let condition : Outcome = strict (compare_values Equal) x (val c.args.row.now c.arm-item.result.condition) in
    let rest : Outcome = match_value x (map (arm_val c.args.row.now) (drop (c.loop-arm.arm-index + 1) c.args.arms.now)) o in
    c.loop-arm.invariant x o given
    ∙ matched_step x c.args.row.now c.args.arms.now c.loop-arm.arm-index c.arm-item.result o c.loop-arm-test.true c.arm-item.is
    ∙ tells_second condition (val c.args.row.now c.arm-item.result.value) rest c.in-Ok-false.field-0 (c.in-Ok-false.ensures.value condition (c.compare_lent-equal.ensures.value x (val c.args.row.now c.arm-item.result.condition) given c.evaluate.ensures.value)) c.in-Ok-false.field-0-test

pub evaluate-returns-in-Some-clause-value : goal.evaluate-returns-in-Some-clause-value
evaluate-returns-in-Some-clause-value t c =
    let o : Outcome = or_null_outcome (option_map (val c.args.row.now) c.in-Case.otherwise) in
    let is : val c.args.row.now c.args.expr.now ≡ case_value (map (arm_val c.args.row.now) c.as_slice-in-Case.result.now) o = case_is c.args.row.now c.args.expr.now c.in-Case.arms c.as_slice-in-Case.result.now c.in-Case.otherwise c.in-Case.is c.as_slice-in-Case.ensures in
    subst (λ (x : Outcome). Gives c.in-Some.found x) (sym is) (c.in-Some.ensures.value o)

pub evaluate-returns-in-Case-clause-value : goal.evaluate-returns-in-Case-clause-value
evaluate-returns-in-Case-clause-value t c =
    let o : Outcome = or_null_outcome (option_map (val c.args.row.now) c.in-Case.otherwise) in
    let is : val c.args.row.now c.args.expr.now ≡ o = case_is c.args.row.now c.args.expr.now c.in-Case.arms c.as_slice-in-Case.result.now c.in-Case.otherwise c.in-Case.is c.as_slice-in-Case.ensures ∙ c.in-None.ensures.value o in
    subst (λ (x : Outcome). Gives c.value_or_null.result x) (sym is) c.value_or_null.ensures.value

pub evaluate-returns-in-Some-match_value-clause-value : goal.evaluate-returns-in-Some-match_value-clause-value
evaluate-returns-in-Some-match_value-clause-value t c =
    let o : Outcome = or_null_outcome (option_map (val c.args.row.now) c.in-Match.otherwise) in
    let x : Outcome = val c.args.row.now c.get-in-Match.result.now in
    let is : val c.args.row.now c.args.expr.now ≡ match_value x (map (arm_val c.args.row.now) c.as_slice-in-Match.result.now) o = match_is c.args.row.now c.args.expr.now c.in-Match.a c.get-in-Match.result.now c.in-Match.arms c.as_slice-in-Match.result.now c.in-Match.otherwise c.in-Match.is c.get-in-Match.ensures c.as_slice-in-Match.ensures in
    subst (λ (y : Outcome). Gives c.in-Some-match_value.found y) (sym is) (c.in-Some-match_value.ensures.value x c.evaluate-operand-in-Match.ensures.value o)

pub evaluate-returns-in-Match-clause-value : goal.evaluate-returns-in-Match-clause-value
evaluate-returns-in-Match-clause-value t c =
    let o : Outcome = or_null_outcome (option_map (val c.args.row.now) c.in-Match.otherwise) in
    let x : Outcome = val c.args.row.now c.get-in-Match.result.now in
    let is : val c.args.row.now c.args.expr.now ≡ o = match_is c.args.row.now c.args.expr.now c.in-Match.a c.get-in-Match.result.now c.in-Match.arms c.as_slice-in-Match.result.now c.in-Match.otherwise c.in-Match.is c.get-in-Match.ensures c.as_slice-in-Match.ensures ∙ c.in-None-match_value.ensures.value x c.evaluate-operand-in-Match.ensures.value o in
    subst (λ (y : Outcome). Gives c.value_or_null-in-None-match_value.result y) (sym is) c.value_or_null-in-None-match_value.ensures.value

-- ---- the loops

pub all_of-loop-operand-preserved : goal.all_of-loop-operand-preserved
all_of-loop-operand-preserved t c o given =
    let x : Expr = c.operand-item.result in
    let after : Condition = both c.loop-operand.so_far (condition_of (val c.args.row.now x)) in
    let same : after ≡ c.both-so_far.result = ap (both c.loop-operand.so_far) (c.in_ok-condition_of.ensures.value (val c.args.row.now x) c.evaluate.ensures.value) ∙ sym c.both-so_far.ensures in
    c.loop-operand.invariant o given
    ∙ folded_step and_also c.args.row.now c.args.more.now c.loop-operand.operand-index x c.loop-operand.so_far c.loop-operand-test.true c.operand-item.is
    ∙ ap (λ (s : Condition). fold and_also s (map (val c.args.row.now) (drop (c.loop-operand.operand-index + 1) c.args.more.now))) same

pub any_of-loop-operand-preserved : goal.any_of-loop-operand-preserved
any_of-loop-operand-preserved t c o given =
    let x : Expr = c.operand-item.result in
    let after : Condition = either c.loop-operand.so_far (condition_of (val c.args.row.now x)) in
    let same : after ≡ c.either-so_far.result = ap (either c.loop-operand.so_far) (c.in_ok-condition_of.ensures.value (val c.args.row.now x) c.evaluate.ensures.value) ∙ sym c.either-so_far.ensures in
    c.loop-operand.invariant o given
    ∙ folded_step or_else c.args.row.now c.args.more.now c.loop-operand.operand-index x c.loop-operand.so_far c.loop-operand-test.true c.operand-item.is
    ∙ ap (λ (s : Condition). fold or_else s (map (val c.args.row.now) (drop (c.loop-operand.operand-index + 1) c.args.more.now))) same

pub in_list-loop-member-preserved : goal.in_list-loop-member-preserved
in_list-loop-member-preserved t c o given =
    let x : Expr = c.member-item.result in
    c.loop-member.invariant o given
    ∙ folded_step (or_equal o) c.args.row.now c.args.members.now c.loop-member.member-index x c.loop-member.so_far c.loop-member-test.true c.member-item.is
    ∙ ap (λ (s : Condition). fold (or_equal o) s (map (val c.args.row.now) (drop (c.loop-member.member-index + 1) c.args.members.now))) (c.in_ok-so_far.ensures.value o (val c.args.row.now x) given c.evaluate.ensures.value)

-- ---- where memory ran out

pub all_of-returns-in_err-condition_of-clause-memory : goal.all_of-returns-in_err-condition_of-clause-memory
all_of-returns-in_err-condition_of-clause-memory t c =
    let whole : IsTrue (is_memory c.in_err-condition_of.field-0.0) → IsTrue (is_out_of_memory c.args.first || any_concatenation c.args.more.now) =
    λ ran. or_right (is_out_of_memory c.args.first) (any_concatenation c.args.more.now)
    (operand_has c.args.more.now c.loop-operand.operand-index c.operand-item.result c.loop-operand-test.true c.operand-item.is (c.evaluate.ensures.memory (c.in_err-condition_of.ensures.memory ran))) in
    search (rules, whole)

pub any_of-returns-in_err-condition_of-clause-memory : goal.any_of-returns-in_err-condition_of-clause-memory
any_of-returns-in_err-condition_of-clause-memory t c =
    let whole : IsTrue (is_memory c.in_err-condition_of.field-0.0) → IsTrue (is_out_of_memory c.args.first || any_concatenation c.args.more.now) =
    λ ran. or_right (is_out_of_memory c.args.first) (any_concatenation c.args.more.now)
    (operand_has c.args.more.now c.loop-operand.operand-index c.operand-item.result c.loop-operand-test.true c.operand-item.is (c.evaluate.ensures.memory (c.in_err-condition_of.ensures.memory ran))) in
    search (rules, whole)

pub apply_links-returns-in_err-so_far-2-clause-memory : goal.apply_links-returns-in_err-so_far-2-clause-memory
apply_links-returns-in_err-so_far-2-clause-memory t c =
    let here : IsTrue (is_memory c.in_err-so_far-2.field-0.0) → IsTrue (is_concatenation c.link-item.result.operator || has_concatenation c.link-item.result.operand) =
    by_two _ (is_concatenation c.link-item.result.operator) (has_concatenation c.link-item.result.operand) _ (is_concatenation c.link-item.result.operator) (is_out_of_memory c.evaluate-operand.result) refl c.in_err-so_far-2.ensures.memory (λ h. h) c.evaluate-operand.ensures.memory in
    let whole : IsTrue (is_memory c.in_err-so_far-2.field-0.0) → IsTrue (is_out_of_memory c.args.first || any_link_concatenation c.args.links.now) =
    λ ran. or_right (is_out_of_memory c.args.first) (any_link_concatenation c.args.links.now)
    (link_has c.args.links.now c.loop-link.link-index c.link-item.result c.loop-link-test.true c.link-item.is (here ran)) in
    search (rules, whole)

pub in_list-returns-in_err-so_far-clause-memory : goal.in_list-returns-in_err-so_far-clause-memory
in_list-returns-in_err-so_far-clause-memory t c =
    let whole : IsTrue (is_memory c.in_err-so_far.field-0.0) → IsTrue (is_out_of_memory c.args.operand.now || any_concatenation c.args.members.now) =
    by_two _ (is_out_of_memory c.args.operand.now) (any_concatenation c.args.members.now) _ (is_out_of_memory c.args.operand.now) (is_out_of_memory c.evaluate.result) refl c.in_err-so_far.ensures.memory (λ h. h)
    (λ ran. operand_has c.args.members.now c.loop-member.member-index c.member-item.result c.loop-member-test.true c.member-item.is (c.evaluate.ensures.memory ran)) in
    search (rules, whole)

pub first_non_null-returns-in_err-found-clause-memory : goal.first_non_null-returns-in_err-found-clause-memory
first_non_null-returns-in_err-found-clause-memory t c =
    let whole : IsTrue (is_memory c.in_err-found.field-0.0) → IsTrue (any_concatenation c.args.operands.now) =
    λ ran. operand_has c.args.operands.now c.loop-operand.operand-index c.operand-item.result c.loop-operand-test.true c.operand-item.is (c.in_err-found.ensures.memory ran) in
    search (rules, whole)

pub case_value-returns-in-Ok-true-clause-memory : goal.case_value-returns-in-Ok-true-clause-memory
case_value-returns-in-Ok-true-clause-memory t c ran =
    value_has c.args.arms.now c.loop-arm.arm-index c.arm-item.result c.loop-arm-test.true c.arm-item.is (c.evaluate-in-Ok-true.ensures.memory ran)

pub case_value-returns-in-Err-clause-memory : goal.case_value-returns-in-Err-clause-memory
case_value-returns-in-Err-clause-memory t c ran =
    condition_has c.args.arms.now c.loop-arm.arm-index c.arm-item.result c.loop-arm-test.true c.arm-item.is (c.evaluate.ensures.memory (c.in-Err.ensures.memory ran))

pub match_value-returns-in-Ok-true-clause-memory : goal.match_value-returns-in-Ok-true-clause-memory
match_value-returns-in-Ok-true-clause-memory t c ran =
    or_right (is_out_of_memory c.args.operand.now) (any_arm_concatenation c.args.arms.now)
    (value_has c.args.arms.now c.loop-arm.arm-index c.arm-item.result c.loop-arm-test.true c.arm-item.is (c.evaluate-in-Ok-true.ensures.memory ran))

pub match_value-returns-in-Err-clause-memory : goal.match_value-returns-in-Err-clause-memory
match_value-returns-in-Err-clause-memory t c =
    by_two _ (is_out_of_memory c.args.operand.now) (any_arm_concatenation c.args.arms.now) _ (is_out_of_memory c.args.operand.now) (is_out_of_memory c.evaluate.result) refl
    (λ ran. c.compare_lent-equal.ensures.memory (c.in-Err.ensures.memory ran)) (λ h. h)
    (λ ran. condition_has c.args.arms.now c.loop-arm.arm-index c.arm-item.result c.loop-arm-test.true c.arm-item.is (c.evaluate.ensures.memory ran))

pub evaluate-returns-in-Chain-clause-memory : goal.evaluate-returns-in-Chain-clause-memory
evaluate-returns-in-Chain-clause-memory t c =
    by_two _ (has_concatenation c.get-in-Chain.result.now) (any_link_concatenation c.as_slice.result.now) _ (is_out_of_memory c.evaluate-in-Chain.result) (any_link_concatenation c.as_slice.result.now)
    (chain_has c.args.expr.now c.in-Chain.first c.get-in-Chain.result.now c.in-Chain.links c.as_slice.result.now c.in-Chain.is c.get-in-Chain.ensures c.as_slice.ensures)
    c.apply_links.ensures.memory c.evaluate-in-Chain.ensures.memory (λ h. h)

pub evaluate-returns-in-Compare-clause-memory : goal.evaluate-returns-in-Compare-clause-memory
evaluate-returns-in-Compare-clause-memory t c =
    by_two _ (has_concatenation c.get-in-Compare.result.now) (has_concatenation c.get-in-Compare-2.result.now) _ (is_out_of_memory c.evaluate-in-Compare.result) (is_out_of_memory c.evaluate-in-Compare-2.result)
    (compare_has c.args.expr.now c.in-Compare.a c.in-Compare.b c.get-in-Compare.result.now c.get-in-Compare-2.result.now c.in-Compare.comparison c.in-Compare.is c.get-in-Compare.ensures c.get-in-Compare-2.ensures)
    c.compare_values.ensures.memory c.evaluate-in-Compare.ensures.memory c.evaluate-in-Compare-2.ensures.memory

pub evaluate-returns-in-StartsWith-clause-memory : goal.evaluate-returns-in-StartsWith-clause-memory
evaluate-returns-in-StartsWith-clause-memory t c =
    by_two _ (has_concatenation c.get-in-StartsWith.result.now) (has_concatenation c.get-in-StartsWith-2.result.now) _ (is_out_of_memory c.evaluate-in-StartsWith.result) (is_out_of_memory c.evaluate-in-StartsWith-2.result)
    (prefix_has c.args.expr.now c.in-StartsWith.a c.in-StartsWith.front c.get-in-StartsWith.result.now c.get-in-StartsWith-2.result.now c.in-StartsWith.is c.get-in-StartsWith.ensures c.get-in-StartsWith-2.ensures)
    c.prefix_test.ensures.memory c.evaluate-in-StartsWith.ensures.memory c.evaluate-in-StartsWith-2.ensures.memory

pub evaluate-returns-in-Between-clause-memory : goal.evaluate-returns-in-Between-clause-memory
evaluate-returns-in-Between-clause-memory t c =
    by_three _ (has_concatenation c.get-in-Between.result.now) (has_concatenation c.get-in-Between-2.result.now) (has_concatenation c.get-in-Between-3.result.now) _
    (is_out_of_memory c.evaluate-in-Between.result) (is_out_of_memory c.evaluate-in-Between-2.result) (is_out_of_memory c.evaluate-in-Between-3.result)
    (between_has c.args.expr.now c.in-Between.a c.in-Between.low c.in-Between.high c.get-in-Between.result.now c.get-in-Between-2.result.now c.get-in-Between-3.result.now c.in-Between.is c.get-in-Between.ensures c.get-in-Between-2.ensures c.get-in-Between-3.ensures)
    c.between.ensures.memory c.evaluate-in-Between.ensures.memory c.evaluate-in-Between-2.ensures.memory c.evaluate-in-Between-3.ensures.memory

pub evaluate-returns-in-In-clause-memory : goal.evaluate-returns-in-In-clause-memory
evaluate-returns-in-In-clause-memory t c =
    by_two _ (has_concatenation c.get-in-In.result.now) (any_concatenation c.as_slice-in-In.result.now) _ (is_out_of_memory c.evaluate-operand.result) (any_concatenation c.as_slice-in-In.result.now)
    (in_has c.args.expr.now c.in-In.a c.get-in-In.result.now c.in-In.members c.as_slice-in-In.result.now c.in-In.is c.get-in-In.ensures c.as_slice-in-In.ensures)
    c.in_list.ensures.memory c.evaluate-operand.ensures.memory (λ h. h)

pub evaluate-returns-in-And-clause-memory : goal.evaluate-returns-in-And-clause-memory
evaluate-returns-in-And-clause-memory t c =
    by_two _ (has_concatenation c.get-in-And.result.now) (any_concatenation c.as_slice-in-And.result.now) _ (is_out_of_memory c.evaluate-in-And.result) (any_concatenation c.as_slice-in-And.result.now)
    (and_has c.args.expr.now c.in-And.first c.get-in-And.result.now c.in-And.more c.as_slice-in-And.result.now c.in-And.is c.get-in-And.ensures c.as_slice-in-And.ensures)
    c.all_of.ensures.memory c.evaluate-in-And.ensures.memory (λ h. h)

pub evaluate-returns-in-Or-clause-memory : goal.evaluate-returns-in-Or-clause-memory
evaluate-returns-in-Or-clause-memory t c =
    by_two _ (has_concatenation c.get-in-Or.result.now) (any_concatenation c.as_slice-in-Or.result.now) _ (is_out_of_memory c.evaluate-in-Or.result) (any_concatenation c.as_slice-in-Or.result.now)
    (or_has c.args.expr.now c.in-Or.first c.get-in-Or.result.now c.in-Or.more c.as_slice-in-Or.result.now c.in-Or.is c.get-in-Or.ensures c.as_slice-in-Or.ensures)
    c.any_of.ensures.memory c.evaluate-in-Or.ensures.memory (λ h. h)

pub evaluate-returns-in-Some-clause-memory : goal.evaluate-returns-in-Some-clause-memory
evaluate-returns-in-Some-clause-memory t c ran =
    case_has c.args.expr.now c.in-Case.arms c.as_slice-in-Case.result.now c.in-Case.otherwise c.in-Case.is c.as_slice-in-Case.ensures
    ∙ or_left (any_arm_concatenation c.as_slice-in-Case.result.now) (else_has c.in-Case.otherwise) (c.in-Some.ensures.memory ran)

pub evaluate-returns-in-Case-clause-memory : goal.evaluate-returns-in-Case-clause-memory
evaluate-returns-in-Case-clause-memory t c ran =
    case_has c.args.expr.now c.in-Case.arms c.as_slice-in-Case.result.now c.in-Case.otherwise c.in-Case.is c.as_slice-in-Case.ensures
    ∙ or_right (any_arm_concatenation c.as_slice-in-Case.result.now) (else_has c.in-Case.otherwise) (c.value_or_null.ensures.memory ran)

pub evaluate-returns-in-Some-match_value-clause-memory : goal.evaluate-returns-in-Some-match_value-clause-memory
evaluate-returns-in-Some-match_value-clause-memory t c ran =
    let operand : Bool = has_concatenation c.get-in-Match.result.now in
    let arms : Bool = any_arm_concatenation c.as_slice-in-Match.result.now in
    match_has c.args.expr.now c.in-Match.a c.get-in-Match.result.now c.in-Match.arms c.as_slice-in-Match.result.now c.in-Match.otherwise c.in-Match.is c.get-in-Match.ensures c.as_slice-in-Match.ensures
    ∙ or_left (operand || arms) (else_has c.in-Match.otherwise)
    (by_two (operand || arms) operand arms _ (is_out_of_memory c.evaluate-operand-in-Match.result) arms refl c.in-Some-match_value.ensures.memory c.evaluate-operand-in-Match.ensures.memory (λ h. h) ran)

pub evaluate-returns-in-Match-clause-memory : goal.evaluate-returns-in-Match-clause-memory
evaluate-returns-in-Match-clause-memory t c ran =
    match_has c.args.expr.now c.in-Match.a c.get-in-Match.result.now c.in-Match.arms c.as_slice-in-Match.result.now c.in-Match.otherwise c.in-Match.is c.get-in-Match.ensures c.as_slice-in-Match.ensures
    ∙ or_right (has_concatenation c.get-in-Match.result.now || any_arm_concatenation c.as_slice-in-Match.result.now) (else_has c.in-Match.otherwise) (c.value_or_null-in-None-match_value.ensures.memory ran)
