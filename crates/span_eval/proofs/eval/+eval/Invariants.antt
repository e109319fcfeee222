use Rattle.std.proofs.Common.{◌≡◌, map, drop}
use Rattle.std.specs.List.{fold}
use Rattle.span_value.specs.declared.truth.Outcome.{Outcome}
use Rattle.span_value.specs.declared.truth.Outcome.TheVariants.{Val}
use Rattle.span_value.specs.declared.truth.Truth.TheVariants.{False}
use Rattle.span_expr.specs.declared.condition.Condition.TheVariants.{Known}
use Rattle.span_expr.specs.Cells.{owned_value, Gives}
use Rattle.span_expr.specs.Outcomes.{condition_of, first_non_null}
use Rattle.span_expr.specs.Meaning.{val, link_val, arm_val, apply_link, and_also, or_else, or_equal, case_value, match_value}
use Rattle.span_eval.proofs.eval.+eval.Given as goal

abbrev pub invariant-all_of-loop-operand : goal.invariant-all_of-loop-operand
invariant-all_of-loop-operand l = (o : Outcome) → Gives l.fn.first o →
    fold and_also (condition_of o) (map (val l.row) l.more) ≡ fold and_also l.so_far (map (val l.row) (drop l.operand-index l.more))

abbrev pub invariant-apply_links-loop-link : goal.invariant-apply_links-loop-link
invariant-apply_links-loop-link l = (o : Outcome) → Gives l.fn.first o →
    fold apply_link o (map (link_val l.row) l.links) ≡ fold apply_link (Val (owned_value l.so_far)) (map (link_val l.row) (drop l.link-index l.links))

abbrev pub invariant-any_of-loop-operand : goal.invariant-any_of-loop-operand
invariant-any_of-loop-operand l = (o : Outcome) → Gives l.fn.first o →
    fold or_else (condition_of o) (map (val l.row) l.more) ≡ fold or_else l.so_far (map (val l.row) (drop l.operand-index l.more))

abbrev pub invariant-in_list-loop-member : goal.invariant-in_list-loop-member
invariant-in_list-loop-member l = (o : Outcome) → Gives l.fn.operand o →
    fold (or_equal o) (Known False) (map (val l.row) l.members) ≡ fold (or_equal o) l.so_far (map (val l.row) (drop l.member-index l.members))

abbrev pub invariant-case_value-loop-arm : goal.invariant-case_value-loop-arm
invariant-case_value-loop-arm l = (o : Outcome) →
    case_value (map (arm_val l.row) l.arms) o ≡ case_value (map (arm_val l.row) (drop l.arm-index l.arms)) o

abbrev pub invariant-match_value-loop-arm : goal.invariant-match_value-loop-arm
invariant-match_value-loop-arm l = (x o : Outcome) → Gives l.fn.operand x →
    match_value x (map (arm_val l.row) l.arms) o ≡ match_value x (map (arm_val l.row) (drop l.arm-index l.arms)) o

abbrev pub invariant-first_non_null-loop-operand : goal.invariant-first_non_null-loop-operand
invariant-first_non_null-loop-operand l =
    first_non_null (map (val l.row) l.operands) ≡ first_non_null (map (val l.row) (drop l.operand-index l.operands))
