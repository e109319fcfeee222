use Rattle.std.proofs.Common.{rules, ◌<◌, ◌^◌, List, length}
use Rattle.span_groups.specs.declared.aggregate.AggregateState.{AggregateState}
use Rattle.span_groups.proofs.OneGroup.{can_count_next, next_taken}
use Rattle.span_groups.proofs.one_group.states_of.Goals as goal

pub take_all-requires-clause-few : goal.take_all-requires-clause-few
take_all-requires-clause-few c =
    let within : c.loop-at.at < length c.args.rows.now = search rules in
    let small : length c.args.rows.now < 2 ^ 64 = search rules in
    can_count_next c.args.aggregates.now c.args.rows.now c.loop-at.at c.loop-at.states.items c.loop-at.invariant within small

pub loop-at-preserved : goal.loop-at-preserved
loop-at-preserved c =
    let within : c.loop-at.at < length c.args.rows.now = search rules in
    let new : List AggregateState = c.take_all.new.states.items in
    next_taken c.args.aggregates.now c.args.rows.now c.loop-at.at c.loop-at.states.items c.loop-at.invariant c.row.result.now within c.row.ensures new c.in_ok-take_all.ensures.others c.in_ok-take_all.ensures.ok
