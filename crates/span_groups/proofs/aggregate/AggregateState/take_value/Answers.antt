use Rattle.std.proofs.Common.{rules, ◌≡◌, ◌∙◌, ap, ℤ, ◌+ℤ◌, w64}
use Rattle.std.proofs.lemmas.Int.{to_z-of_z}
use Rattle.span_expr.specs.Cells.{owned_value}
use Rattle.span_groups.proofs.Taking.{sum_takes}
use Rattle.span_groups.proofs.aggregate.AggregateState.take_value.Goals as goal

pub returns-in-Sum : goal.returns-in-Sum
returns-in-Sum c =
    let total : c.add.new.self.total ≡ c.in-Sum.sum.total +ℤ c.int_of.result = c.add.ensures.total ∙ ap (λ (z : ℤ). c.in-Sum.sum.total +ℤ z) (to_z-of_z w64 c.int_of.result (search rules)) in
    sum_takes c.args.self.now c.in-Sum.sum c.add.new.self (owned_value c.args.value) c.int_of.result c.in-Sum.is c.int_of.ensures c.add.ensures.values total
