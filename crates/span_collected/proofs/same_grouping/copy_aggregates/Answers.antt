use Rattle.std.proofs.Common.{rules, ◌≡◌, ◌∷◌, ◌++◌, ◌+◌, ◌<◌, ◌∙◌, [], List, length, take, get_or, sym}
use Rattle.span_query.specs.declared.query.Aggregate.{Aggregate}
use Rattle.span_collected.proofs.Copying.{copied_more, copied_all}
use Rattle.span_collected.proofs.same_grouping.copy_aggregates.Goals as goal

pub loop-aggregate-preserved : goal.loop-aggregate-preserved
loop-aggregate-preserved c =
    let all = c.args.aggregates.now in
    let i = c.loop-aggregate.aggregate-index in
    let x = c.aggregate-item.result in
    let within : i < length all = search rules in
    let is : x ≡ get_or all i x = search rules in
    let copy = c.in_ok-copy_aggregate.field-0 in
    let more : take (i + 1) all ≡ c.loop-aggregate.copies.items ++ copy ∷ [] =
    copied_more all c.loop-aggregate.copies.items i x copy within is (sym {A = Aggregate} c.in_ok-copy_aggregate.ensures) c.loop-aggregate.invariant in
    more ∙ sym {A = List Aggregate} c.in_ok-push.ensures.items

pub returns : goal.returns
returns c = sym {A = List Aggregate} (copied_all c.args.aggregates.now c.loop-aggregate.copies.items c.loop-aggregate.aggregate-index (search rules) c.loop-aggregate.invariant)
