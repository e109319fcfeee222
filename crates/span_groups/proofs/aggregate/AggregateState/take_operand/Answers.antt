use Rattle.std.proofs.Common.{rules, ◌≡◌, ◌++◌, ◌∷◌, [], ℤ, List, Some, refl, subst, w64}
use Rattle.std.proofs.lemmas.Int.{to_z-of_z}
use Rattle.span_value.specs.declared.value.Value.{Value}
use Rattle.span_value.specs.declared.value.Value.TheVariants as value
use Rattle.span_expr.specs.Meaning.{val}
use Rattle.span_query.specs.declared.query.Function.{Function}
use Rattle.span_query.specs.Rows.{value_of}
use Rattle.span_groups.specs.States.{HasTaken}
use Rattle.span_groups.proofs.Taking.{takes_value}
use Rattle.span_groups.proofs.aggregate.AggregateState.take_operand.Goals as goal

pub returns-in-Some-clause-ok : goal.returns-in-Some-clause-ok
returns-in-Some-clause-ok c =
    let n : ℤ = c.in-Some.number in
    let v : Value = value.Int n in
    let gives : value_of (val c.args.row.now c.args.operand.now) ≡ Some v = search rules in (
      v,
      gives,
      takes_value v c.args.self.now c.take_number.new.self refl
          (subst (λ (z : ℤ). (f : Function) (vs : List Value) → HasTaken f vs c.args.self.now → HasTaken f (vs ++ value.Int z ∷ []) c.take_number.new.self) (to_z-of_z w64 n (search rules)) c.take_number.ensures),
    )
