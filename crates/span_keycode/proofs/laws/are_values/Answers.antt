use Rattle.std.proofs.Common.{◌≤◌, length, arith, subst}
use Rattle.span_value.specs.declared.value.Value.{Value}
use Rattle.span_keycode.specs.Coding.{IsValue}
use Rattle.span_keycode.proofs.ValueLaws.{values_next, values_end}
use Rattle.span_keycode.proofs.laws.are_values.Goals as goal

pub loop-value-preserved : goal.loop-value-preserved
loop-value-preserved c =
    λ rest.
    let v = c.value-item.result in
    let P : Value → Type 0 = λ x. IsValue x in
    c.loop-value.invariant (values_next c.args.values.now c.loop-value.value-index v c.loop-value-test.true (subst P c.value-item.is c.is_value.ensures) rest)

pub returns : goal.returns
returns c =
    let all : length c.args.values.now ≤ c.loop-value.value-index = omega arith in
    c.loop-value.invariant (values_end c.args.values.now c.loop-value.value-index all)
