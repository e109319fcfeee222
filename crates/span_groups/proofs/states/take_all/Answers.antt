use Rattle.std.proofs.Common.{rules, ◌≡◌, ◌∙◌, ◌+◌, ◌<◌, List, length, get_or, slice_get, Some, sym, subst, arith}
use Rattle.std.proofs.lemmas.Option.{slice_get_read}
use Rattle.span_groups.specs.declared.aggregate.AggregateState.{AggregateState}
use Rattle.span_groups.specs.StateLists.{states_from}
use Rattle.span_groups.proofs.StateLists.{changed_none, changed_one, set_from, read_at, long_from}
use Rattle.span_groups.proofs.Together.{Takes, takes_none, takes_one, takes_all, can_count_more}
use Rattle.span_groups.proofs.states.take_all.Goals as goal

pub index_mut-requires : goal.index_mut-requires
index_mut-requires c = omega (arith, c.requires.within, c.loop-at.invariant.others.long, c.loop-at-test.true)

pub take-requires : goal.take-requires
take-requires c =
    let all = c.args.aggregates.now in
    let w = length all in
    let start = c.args.start in
    let old : List AggregateState = c.args.states.now.items in
    let now : List AggregateState = c.loop-at.states.items in
    let within : c.loop-at.at < w = search rules in
    let here : slice_get all c.loop-at.at ≡ Some c.index-aggregates-at.result = search (rules, slice_get_read) in
    let found : c.index_mut.result.now ≡ get_or now (start + c.loop-at.at) c.index_mut.result.now = search rules in
    let there : slice_get (states_from start w now) c.loop-at.at ≡ Some c.index_mut.result.now =
    read_at start w now c.loop-at.at c.index_mut.result.now within (omega (arith, c.requires.within, c.loop-at.invariant.others.long)) found in
    can_count_more all c.args.row.now (states_from start w old) (states_from start w now) c.loop-at.at c.index-aggregates-at.result c.index_mut.result.now c.requires.few c.loop-at.invariant.taken here there

pub loop-at-init : goal.loop-at-init
loop-at-init c = record {
  taken = takes_none c.args.aggregates.now c.args.row.now (states_from c.args.start (length c.args.aggregates.now) c.args.states.now.items);
  others = changed_none c.args.start (length c.args.aggregates.now) c.args.states.now.items;
}

pub loop-at-preserved : goal.loop-at-preserved
loop-at-preserved c =
    let all = c.args.aggregates.now in
    let w = length all in
    let start = c.args.start in
    let old : List AggregateState = c.args.states.now.items in
    let now : List AggregateState = c.loop-at.states.items in
    let within : c.loop-at.at < w = search rules in
    let here : slice_get all c.loop-at.at ≡ Some c.index-aggregates-at.result = search (rules, slice_get_read) in
    let found : c.index_mut.result.now ≡ get_or now (start + c.loop-at.at) c.index_mut.result.now = search rules in
    let there : slice_get (states_from start w now) c.loop-at.at ≡ Some c.index_mut.result.now =
    read_at start w now c.loop-at.at c.index_mut.result.now within (omega (arith, c.requires.within, c.loop-at.invariant.others.long)) found in
    record {
      taken =
          subst (λ (l : List AggregateState). Takes all c.args.row.now (states_from start w old) l (c.loop-at.at + 1)) (sym {A = List AggregateState} (set_from start w now c.loop-at.at c.take.new.self within))
          (takes_one all c.args.row.now (states_from start w old) (states_from start w now) c.loop-at.at c.index-aggregates-at.result c.index_mut.result.now c.take.new.self c.loop-at.invariant.taken here there c.in_ok-take.ensures.ok);
      others = changed_one start w old now c.loop-at.at c.take.new.self within c.loop-at.invariant.others;
    }

pub returns-clause-ok : goal.returns-clause-ok
returns-clause-ok c rows h =
    let all = c.args.aggregates.now in
    let w = length all in
    let start = c.args.start in
    let old : List AggregateState = c.args.states.now.items in
    let now : List AggregateState = c.loop-at.states.items in
    let long : length (states_from start w now) ≡ length (states_from start w old) =
    long_from start w now (omega (arith, c.requires.within, c.loop-at.invariant.others.long)) ∙ sym (long_from start w old c.requires.within) in
    takes_all all c.args.row.now (states_from start w old) (states_from start w now) c.loop-at.at long c.loop-at.invariant.taken rows h (search rules)

pub returns-clause-others : goal.returns-clause-others
returns-clause-others c = c.loop-at.invariant.others
