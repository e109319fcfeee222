use Rattle.std.proofs.Common.{◌∙◌, arith, ap, refl, sym}
use Rattle.std.specs.Ordering.{is_lt}
use Rattle.span_keytree.specs.Roots.{entries_at}
use Rattle.span_keytree.proofs.Rising.{nothing_in, less_not_ge, not_less_ge}
use Rattle.span_keywalk.proofs.Walking.{range_walked}
use Rattle.span_keywalk.proofs.walk.walk_range.Goals as goal

pub returns-then-is_ge-clause-entries : goal.returns-then-is_ge-clause-entries
returns-then-is_ge-clause-entries g c =
    c.none.ensures ∙ sym (nothing_in c.args.low.now c.args.high.now (entries_at c.args.arena.now.cells c.args.index.now) (ap is_lt (sym c.cmp.ensures) ∙ not_less_ge c.cmp.result (sym c.is_ge.ensures ∙ c.if-is_ge.true)))

pub invariant_of-result : goal.invariant_of-result
invariant_of-result g c =
    ((range_walked c.args.arena.now.cells c.args.nexts.now c.args.index.now c.requires c.numbers.result (omega (arith, c.numbers.ensures.len)) c.args.low.now c.args.high.now c.first_from-at.result c.first_from-stop.result (sym c.cmp.ensures ∙ less_not_ge c.cmp.result (sym c.is_ge.ensures ∙ c.if-is_ge.false)) c.first_from-at.ensures.first c.first_from-stop.ensures.first).within, c.requires.places)

pub returns-clause-entries : goal.returns-clause-entries
returns-clause-entries g c =
    (range_walked c.args.arena.now.cells c.args.nexts.now c.args.index.now c.requires c.numbers.result (omega (arith, c.numbers.ensures.len)) c.args.low.now c.args.high.now c.first_from-at.result c.first_from-stop.result (sym c.cmp.ensures ∙ less_not_ge c.cmp.result (sym c.is_ge.ensures ∙ c.if-is_ge.false)) c.first_from-at.ensures.first c.first_from-stop.ensures.first).now

pub returns-then-is_ge-clause-cost : goal.returns-then-is_ge-clause-cost
returns-then-is_ge-clause-cost g c = (λ d less. record {
  between = c.args.steps.now;
  first = record { compared = omega arith; written = refl };
  second = record { compared = omega arith; written = refl };
})

pub returns-clause-cost : goal.returns-clause-cost
returns-clause-cost g c = (λ d less. record {
  between = c.first_from-at.new.steps;
  first = c.first_from-at.ensures.cost d less;
  second = c.first_from-stop.ensures.cost d less;
})
