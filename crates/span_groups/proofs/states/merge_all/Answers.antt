use Rattle.std.proofs.Common.{rules, ◌≡◌, ◌∙◌, ◌+◌, ◌<◌, List, length, get_or, slice_get, Some, IsTrue, sym, subst, arith}
use Rattle.std.proofs.lemmas.Option.{slice_get_read}
use Rattle.span_groups.specs.declared.aggregate.AggregateState.{AggregateState}
use Rattle.span_groups.specs.StateLists.{states_from}
use Rattle.span_groups.proofs.StateLists.{changed_none, changed_one, set_from, read_at, long_from}
use Rattle.span_groups.proofs.Merging.{TakesAll, TakesBefore, none_before, one_before, all_before}
use Rattle.span_groups.proofs.states.merge_all.Goals as goal

pub index_mut-requires : goal.index_mut-requires
index_mut-requires c = omega (arith, c.requires, c.loop-at.invariant.others.long, c.loop-at-test.true)

pub loop-at-init : goal.loop-at-init
loop-at-init c = record {
  taken = none_before (states_from c.args.start (length c.args.more.now) c.args.states.now.items) c.args.more.now;
  others = changed_none c.args.start (length c.args.more.now) c.args.states.now.items;
}

pub loop-at-preserved : goal.loop-at-preserved
loop-at-preserved c =
    let more : List AggregateState = c.args.more.now in
    let w = length more in
    let start = c.args.start in
    let old : List AggregateState = c.args.states.now.items in
    let now : List AggregateState = c.loop-at.states.items in
    let within : c.loop-at.at < w = search rules in
    let found : c.index_mut.result.now ≡ get_or now (start + c.loop-at.at) c.index_mut.result.now = search rules in
    let there : slice_get (states_from start w now) c.loop-at.at ≡ Some c.index_mut.result.now =
    read_at start w now c.loop-at.at c.index_mut.result.now within (omega (arith, c.requires, c.loop-at.invariant.others.long)) found in
    let others : slice_get more c.loop-at.at ≡ Some c.index-more-at.result = search (rules, slice_get_read) in
    let done : IsTrue c.in_ok-merge.field-0 = search rules in
    let takes : TakesAll c.index_mut.result.now c.index-more-at.result c.merge.new.self = c.in_ok-merge.ensures done in
    record {
      taken =
          subst (λ (l : List AggregateState). TakesBefore (states_from start w old) more l (c.loop-at.at + 1)) (sym {A = List AggregateState} (set_from start w now c.loop-at.at c.merge.new.self within))
          (one_before (states_from start w old) more (states_from start w now) c.loop-at.at c.index_mut.result.now c.index-more-at.result c.merge.new.self c.loop-at.invariant.taken there others takes);
      others = changed_one start w old now c.loop-at.at c.merge.new.self within c.loop-at.invariant.others;
    }

pub returns-clause-merged : goal.returns-clause-merged
returns-clause-merged c done all rows next h l =
    let more : List AggregateState = c.args.more.now in
    let w = length more in
    let start = c.args.start in
    let old : List AggregateState = c.args.states.now.items in
    let now : List AggregateState = c.loop-at.states.items in
    let same : length (states_from start w old) ≡ w = long_from start w old c.requires in
    let long : length (states_from start w now) ≡ length (states_from start w old) =
    long_from start w now (omega (arith, c.requires, c.loop-at.invariant.others.long)) ∙ sym same in
    all_before (states_from start w old) more (states_from start w now) c.loop-at.at long (omega (arith, same, c.loop-at-test.false)) c.loop-at.invariant.taken all rows next h l
