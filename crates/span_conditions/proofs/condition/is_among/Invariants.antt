use Rattle.std.proofs.Common.{◌≡◌, ◌++◌, map, drop}
use Rattle.std.specs.List.{fold}
use Rattle.span_value.specs.declared.truth.Outcome.TheVariants.{Val}
use Rattle.span_value.specs.declared.truth.Truth.TheVariants.{False}
use Rattle.span_value.specs.declared.value.Value.TheVariants.{Bool}
use Rattle.span_expr.specs.declared.condition.Condition.TheVariants.{Known}
use Rattle.span_expr.specs.Meaning.{or_equal, val}
use Rattle.span_expr.specs.Outcomes.{truth_of}
use Rattle.span_conditions.proofs.condition.is_among.Given as goal

-- the members that are left, after whether one so far is equal
abbrev pub invariant-loop-member : goal.invariant-loop-member
invariant-loop-member l =
    fold (or_equal (Val l.operand)) (Known False) (map (val (l.left ++ l.right)) l.members)
    ≡ fold (or_equal (Val l.operand)) (Known (truth_of (Bool l.met))) (map (val (l.left ++ l.right)) (drop l.member-index l.members))
