use Rattle.std.proofs.Common.{rules, arith, ◌≡◌, ◌+◌, ℕ, List, length, sym, subst}
use Rattle.span_query.specs.Sorting.{insert_sorted}
use Rattle.span_merging.specs.declared.parts.PartRest.{PartRest}
use Rattle.span_sorting.specs.Orders.{IsOrderBelow}
use Rattle.span_merging.specs.PartRests.{front_at, part_before, row_before, rows_of_rests}
use Rattle.span_merging.proofs.ItemOrders.{order_more}
use Rattle.span_merging.proofs.PartRests.{fronts_ranked}
use Rattle.span_merging.proofs.parts.order_rests.Goals as goal

pub loop-part-preserved : goal.loop-part-preserved
loop-part-preserved c =
    let keys = c.args.keys.now in
    let rests : List PartRest = c.args.rests.now in
    let part : ℕ = c.loop-part.part in
    let order : List ℕ = c.loop-part.order.items in
    let items : c.insert.new.self.items ≡ insert_sorted (part_before keys rests) part order = search rules in
    subst (IsOrderBelow (part + 1) (part_before keys rests)) (sym items)
    (order_more (row_before keys) (front_at (rows_of_rests rests)) (fronts_ranked keys) part order c.loop-part.invariant)

pub returns : goal.returns
returns c =
    let rests : List PartRest = c.args.rests.now in
    let all : c.loop-part.part ≡ length rests = omega (arith, c.loop-part-test.false, c.loop-part.auto.part-end) in
    subst (λ (n : ℕ). IsOrderBelow n (part_before c.args.keys.now rests) c.loop-part.order.items) all c.loop-part.invariant
