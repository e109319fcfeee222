use Rattle.std.proofs.Common.{arith}
use Rattle.span_keywalk.proofs.Fronts.{under_walked}
use Rattle.span_keywalk.proofs.walk.walk_under.Goals as goal

pub invariant_of-result : goal.invariant_of-result
invariant_of-result g c =
    ((under_walked c.args.arena.now.cells c.args.nexts.now c.args.index.now c.requires c.numbers.result (omega (arith, c.numbers.ensures.len)) c.args.front.now c.first_from-at.result c.first_past-stop.result c.first_from-at.ensures.first c.first_past-stop.ensures.first).within, c.requires.places)

pub returns-clause-entries : goal.returns-clause-entries
returns-clause-entries g c =
    (under_walked c.args.arena.now.cells c.args.nexts.now c.args.index.now c.requires c.numbers.result (omega (arith, c.numbers.ensures.len)) c.args.front.now c.first_from-at.result c.first_past-stop.result c.first_from-at.ensures.first c.first_past-stop.ensures.first).now

pub returns-clause-cost : goal.returns-clause-cost
returns-clause-cost g c = (λ d less. record {
  between = c.first_from-at.new.steps;
  first = c.first_from-at.ensures.cost d less;
  second = c.first_past-stop.ensures.cost d less;
})
