use Rattle.std.proofs.Common.{rules, ◌≡◌, ◌*◌, ◌≤◌, ◌<◌, [], List, Result, get_or, length, take, sym, subst}
use Rattle.span_expr.specs.declared.cell.Failure.{Failure}
use Rattle.span_query.specs.Rows.{Row}
use Rattle.span_rows.specs.LentRows.{lent_rows}
use Rattle.span_groups.specs.declared.aggregate.AggregateState.{AggregateState}
use Rattle.span_collected.specs.declared.lent.LentGroups.{LentGroups}
use Rattle.span_groups.specs.GroupStates.{AreGroupLists, HaveKeys}
use Rattle.span_collected.specs.Parts.{all_rows}
use Rattle.span_groups.proofs.GroupSteps.{in_step}
use Rattle.span_classes.specs.Ranges.{IsRangeMade, range_at}
use Rattle.span_classes.proofs.InRanges.{range_fault, range_next, range_none, ranges_all, wide_made}
use Rattle.span_classes.proofs.ranges.merge_ranges.Goals as goal

pub loop-range-init : goal.loop-range-init
loop-range-init c =
    let g = c.args.grouping.now in
    let states : List AggregateState = c.in_ok-groups.groups.states.items in
    record {
      are =
          subst (λ (l : List Row). AreGroupLists g l c.in_ok-index.index.keys states) (sym (range_none c.args.size c.args.parts.now))
          (subst (λ (ks : List Row). AreGroupLists g [] ks states) (sym {A = List Row} c.in_ok-index.ensures) c.in_ok-groups.ensures.states);
      firsts = subst (λ (ks : List Row). HaveKeys g (lent_rows c.in_ok-groups.groups.firsts.items) ks) (sym {A = List Row} c.in_ok-index.ensures) c.in_ok-groups.ensures.firsts;
    }

pub take_range-requires-clause-step : goal.take_range-requires-clause-step
take_range-requires-clause-step c = in_step c.args.grouping.now (all_rows (take (c.loop-range.range-index * c.args.size) c.args.parts.now)) c.loop-range.index.keys c.loop-range.groups.states.items c.loop-range.invariant.are

pub take_range-requires-clause-wide : goal.take_range-requires-clause-wide
take_range-requires-clause-wide c =
    let i = c.loop-range.range-index in
    let x : Result LentGroups Failure = c.range-item.result in
    let within : i < length c.args.made.now = search rules in
    let is : get_or c.args.made.now i x ≡ x = search rules in
    wide_made c.args.grouping.now (all_rows (range_at c.args.size c.args.parts.now i)) x
    (subst (IsRangeMade c.args.grouping.now (all_rows (range_at c.args.size c.args.parts.now i))) is (c.requires.made.each i x within))

pub loop-range-preserved : goal.loop-range-preserved
loop-range-preserved c =
    let g = c.args.grouping.now in
    let size = c.args.size in
    let parts = c.args.parts.now in
    let i = c.loop-range.range-index in
    let x : Result LentGroups Failure = c.range-item.result in
    let within : i < length c.args.made.now = search rules in
    let is : get_or c.args.made.now i x ≡ x = search rules in
    let made : IsRangeMade g (all_rows (range_at size parts i)) x = subst (IsRangeMade g (all_rows (range_at size parts i))) is (c.requires.made.each i x within) in
    record {
      are =
          subst (λ (l : List Row). AreGroupLists g l c.take_range.new.index.keys c.take_range.new.groups.states.items) (sym (range_next size parts i))
          (c.in_ok-take_range.ensures.ok (all_rows (take (i * size) parts)) (all_rows (range_at size parts i)) c.loop-range.invariant.are made.ok);
      firsts = c.in_ok-take_range.ensures.firsts c.loop-range.invariant.firsts;
    }

pub returns-in_err-take_range-clause-fault : goal.returns-in_err-take_range-clause-fault
returns-in_err-take_range-clause-fault c is_fault =
    let g = c.args.grouping.now in
    let size = c.args.size in
    let parts = c.args.parts.now in
    let i = c.loop-range.range-index in
    let x : Result LentGroups Failure = c.range-item.result in
    let within : i < length c.args.made.now = search rules in
    let is : get_or c.args.made.now i x ≡ x = search rules in
    let made : IsRangeMade g (all_rows (range_at size parts i)) x = subst (IsRangeMade g (all_rows (range_at size parts i))) is (c.requires.made.each i x within) in
    range_fault size parts g i (made.fault (c.in_err-take_range.ensures.fault (search (rules, is_fault))))

pub returns-clause-ok : goal.returns-clause-ok
returns-clause-ok c =
    let g = c.args.grouping.now in
    let past : length c.args.made.now ≤ c.loop-range.range-index = search rules in
    let states : List AggregateState = c.loop-range.groups.states.items in
    subst (λ (ks : List Row). AreGroupLists g (all_rows c.args.parts.now) ks states) (sym {A = List Row} c.loop-range.invariant.firsts)
    (subst (λ (l : List Row). AreGroupLists g l c.loop-range.index.keys states) (ranges_all c.args.size c.args.parts.now c.loop-range.range-index (search rules)) c.loop-range.invariant.are)
