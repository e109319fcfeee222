use Rattle.std.proofs.Common.{rules, ◌≡◌, ◌<◌, ◌++◌, List, true, length}
use Rattle.span_value.specs.declared.value.Value.{Value}
use Rattle.span_value.specs.declared.value.Value.TheVariants as value
use Rattle.span_value.specs.declared.truth.Outcome.TheVariants.{Val}
use Rattle.span_expr.specs.Meaning.{val}
use Rattle.span_conditions.proofs.Compared.{first_true, one_true}
use Rattle.span_conditions.proofs.condition.is_any_met.Goals as goal

pub returns-then-branch : goal.returns-then-branch
returns-then-branch c =
    let row : List Value = c.args.left.now ++ c.args.right.now in
    let comes : val row c.args.first.now ≡ Val (value.Bool true) = search rules in
    first_true row c.args.first.now c.args.more.now comes

pub returns-then-branch-2 : goal.returns-then-branch-2
returns-then-branch-2 c =
    let row : List Value = c.args.left.now ++ c.args.right.now in
    let within : c.loop-condition.condition-index < length c.args.more.now = search rules in
    let comes : val row c.condition-item.result ≡ Val (value.Bool true) = search rules in
    one_true row c.args.first.now c.args.more.now c.loop-condition.condition-index c.condition-item.result c.loop-condition.invariant within c.condition-item.is comes
