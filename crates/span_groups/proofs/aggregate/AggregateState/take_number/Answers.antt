use Rattle.std.proofs.Common.{rules, ◌≡◌, ◌∙◌, refl, ap, ℤ, ◌+ℤ◌, w64}
use Rattle.std.proofs.lemmas.Int.{to_z-of_z}
use Rattle.span_value.specs.declared.value.Value.TheVariants as value
use Rattle.span_groups.proofs.Taking.{sum_takes}
use Rattle.span_groups.proofs.aggregate.AggregateState.take_number.Goals as goal

pub returns-in-Sum : goal.returns-in-Sum
returns-in-Sum c =
    let total : c.add.new.self.total ≡ c.in-Sum.sum.total +ℤ c.args.number = c.add.ensures.total ∙ ap (λ (z : ℤ). c.in-Sum.sum.total +ℤ z) (to_z-of_z w64 c.args.number (search rules)) in
    sum_takes c.args.self.now c.in-Sum.sum c.add.new.self (value.Int c.args.number) c.args.number c.in-Sum.is refl c.add.ensures.values total
