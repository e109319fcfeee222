use Rattle.std.proofs.Common.{rules, ◌≡◌, ◌∙◌, ◌+◌, ◌++◌, ◌<◌, ◌≤◌, [], List, length, get_or, take, drop, ap, sym, subst, arith}
use Rattle.std.proofs.lemmas.List.{length-append}
use Rattle.span_query.specs.Rows.{Row}
use Rattle.span_rows.specs.LentRows.{lent_rows}
use Rattle.span_groups.specs.declared.aggregate.AggregateState.{AggregateState}
use Rattle.span_groups.specs.GroupStates.{AreGroupLists, HaveKeys}
use Rattle.span_collected.specs.Parts.{all_rows}
use Rattle.span_collected.proofs.KeptGroups.{any_of_part, rows_split}
use Rattle.span_collected.proofs.Parting.{rows_more, rows_all}
use Rattle.span_collected.proofs.merge.merge_parts.Goals as goal

pub take_part-requires : goal.take_part-requires
take_part-requires c =
    let counted : c.in_ok-count.count ≡ c.loop-part.count + length c.part-item.result.now = search rules in
    record {
      rows = all_rows (take c.loop-part.part-index c.args.parts.now);
      are = c.loop-part.invariant.are;
      few = omega (arith, counted, c.loop-part.invariant.counted);
    }

pub loop-part-init : goal.loop-part-init
loop-part-init c =
    let g = c.args.grouping.now in
    let states : List AggregateState = c.in_ok-groups.groups.states.items in
    record {
      are = subst (λ (ks : List Row). AreGroupLists g [] ks states) (sym {A = List Row} c.in_ok-index.ensures) c.in_ok-groups.ensures.states;
      firsts = subst (λ (ks : List Row). HaveKeys g (lent_rows c.in_ok-groups.groups.firsts.items) ks) (sym {A = List Row} c.in_ok-index.ensures) c.in_ok-groups.ensures.firsts;
      counted = search rules;
    }

pub returns-in_err-take_part-clause-fault : goal.returns-in_err-take_part-clause-fault
returns-in_err-take_part-clause-fault c is_fault =
    let g = c.args.grouping.now in
    let parts = c.args.parts.now in
    let i = c.loop-part.part-index in
    let x = c.part-item.result in
    let within : i < length parts = search rules in
    let is : x ≡ get_or parts i x = search rules in
    any_of_part g (all_rows (take i parts)) x.now (all_rows (drop (i + 1) parts)) (all_rows parts) (rows_split parts i x within is)
    (c.in_err-take_part.ensures.fault (search (rules, is_fault)))

pub loop-part-preserved : goal.loop-part-preserved
loop-part-preserved c =
    let g = c.args.grouping.now in
    let parts = c.args.parts.now in
    let i = c.loop-part.part-index in
    let x = c.part-item.result in
    let within : i < length parts = search rules in
    let is : x ≡ get_or parts i x = search rules in
    let more : all_rows (take (i + 1) parts) ≡ all_rows (take i parts) ++ x.now = rows_more parts i x within is in
    let counted : c.in_ok-count.count ≡ c.loop-part.count + length x.now = search rules in
    record {
      are =
          subst (λ (l : List Row). AreGroupLists g l c.take_part.new.index.keys c.take_part.new.groups.states.items) (sym more)
          (c.in_ok-take_part.ensures.ok (all_rows (take i parts)) c.loop-part.invariant.are);
      firsts = c.in_ok-take_part.ensures.firsts c.loop-part.invariant.firsts;
      counted = ap (λ (l : List Row). length l) more ∙ omega (arith, counted, c.loop-part.invariant.counted, length-append (all_rows (take i parts)) x.now);
    }

pub returns-clause-ok : goal.returns-clause-ok
returns-clause-ok c =
    let g = c.args.grouping.now in
    let past : length c.args.parts.now ≤ c.loop-part.part-index = search rules in
    let states : List AggregateState = c.loop-part.groups.states.items in
    subst (λ (ks : List Row). AreGroupLists g (all_rows c.args.parts.now) ks states) (sym {A = List Row} c.loop-part.invariant.firsts)
    (subst (λ (l : List Row). AreGroupLists g l c.loop-part.index.keys states) (rows_all c.args.parts.now c.loop-part.part-index past) c.loop-part.invariant.are)
