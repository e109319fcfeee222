use Rattle.std.proofs.Common.{◌≡◌, ◌∙◌, List, Option, sym, subst}
use Rattle.std.specs.Prelude.{MatchResult}
use Rattle.span_value.specs.declared.value.Value.{Value}
use Rattle.span_value.specs.declared.refusal.Refusal.TheVariants as refusal
use Rattle.span_checking.proofs.InOrder.{values_given}
use Rattle.span_checking.proofs.column.values_of.Goals as goal

pub returns-then-in_order : goal.returns-then-in_order
returns-then-in_order c =
    subst (λ (vs : List (Option Value)). MatchResult c.values_in_order.result (λ values. values.items ≡ vs) (λ why. why ≡ refusal.OutOfMemory))
    (sym (values_given c.args.table.now c.requires.once c.args.cells.items (sym c.requires.order ∙ c.if-in_order.true))) c.values_in_order.ensures
