use Rattle.std.proofs.Common.{rules, ◌+◌, ◌∷◌, ◌++◌, [], List, sym, subst}
use Rattle.span_groups.specs.declared.aggregate.AggregateState.{AggregateState}
use Rattle.span_groups.proofs.AddedStates.{AreAddedTo, added_none, added_more, added_all}
use Rattle.span_groups.proofs.states.add_states.Goals as goal

pub loop-aggregate-init : goal.loop-aggregate-init
loop-aggregate-init c = added_none c.args.aggregates.now c.args.states.now.items

pub loop-aggregate-preserved : goal.loop-aggregate-preserved
loop-aggregate-preserved c =
    let more : AreAddedTo c.args.aggregates.now (c.loop-aggregate.aggregate-index + 1) c.args.states.now.items (c.loop-aggregate.states.items ++ c.new.result ∷ []) =
    added_more c.args.aggregates.now c.loop-aggregate.aggregate-index c.args.states.now.items c.loop-aggregate.states.items c.aggregate-item.result c.new.result c.loop-aggregate-test.true c.aggregate-item.is c.new.ensures c.loop-aggregate.invariant in
    subst (λ (states : List AggregateState). AreAddedTo c.args.aggregates.now (c.loop-aggregate.aggregate-index + 1) c.args.states.now.items states) (sym {A = List AggregateState} c.in_ok-push.ensures.items) more

pub returns : goal.returns
returns c = added_all c.args.aggregates.now c.loop-aggregate.aggregate-index c.args.states.now.items c.loop-aggregate.states.items (search rules) c.loop-aggregate.invariant
