use Rattle.std.proofs.Common.{rules, ◌≡◌, ◌<◌, ◌++◌, List, false, length}
use Rattle.span_value.specs.declared.value.Value.{Value}
use Rattle.span_value.specs.declared.value.Value.TheVariants as value
use Rattle.span_value.specs.declared.truth.Outcome.TheVariants.{Val}
use Rattle.span_expr.specs.Meaning.{val}
use Rattle.span_conditions.proofs.Compared.{first_false, one_false}
use Rattle.span_conditions.proofs.condition.are_all_met.Goals as goal

pub returns-then-not-branch : goal.returns-then-not-branch
returns-then-not-branch c =
    let row : List Value = c.args.left.now ++ c.args.right.now in
    let comes : val row c.args.first.now ≡ Val (value.Bool false) = search rules in
    first_false row c.args.first.now c.args.more.now comes

pub returns-then-not-branch-2 : goal.returns-then-not-branch-2
returns-then-not-branch-2 c =
    let row : List Value = c.args.left.now ++ c.args.right.now in
    let within : c.loop-condition.condition-index < length c.args.more.now = search rules in
    let comes : val row c.condition-item.result ≡ Val (value.Bool false) = search rules in
    one_false row c.args.first.now c.args.more.now c.loop-condition.condition-index c.condition-item.result c.loop-condition.invariant within c.condition-item.is comes
