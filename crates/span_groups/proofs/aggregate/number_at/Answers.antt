use Rattle.std.proofs.Common.{◌≡◌, ℤ, List, IfSome, subst}
use Rattle.std.proofs.lemmas.List.{append-nil}
use Rattle.span_value.specs.declared.value.Value.{Value}
use Rattle.span_value.specs.declared.value.Value.TheVariants as value
use Rattle.span_value.specs.declared.truth.Outcome.TheVariants.{Val}
use Rattle.span_expr.specs.Meaning.{val}
use Rattle.span_groups.proofs.aggregate.number_at.Goals as goal

-- the right part of the row is empty
pub returns-in-Negative : goal.returns-in-Negative
returns-in-Negative c =
    subst (λ (row : List Value). IfSome c.number_of.result (λ (n : ℤ). val row c.args.operand.now ≡ Val (value.Int n))) (append-nil c.args.row.now) c.number_of.ensures
