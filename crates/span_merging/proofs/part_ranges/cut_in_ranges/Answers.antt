use Rattle.std.proofs.Common.{rules, ◌≡◌, ◌∙◌, ◌++◌, ◌∷◌, [], Bool, List, ap, sym, subst}
use Rattle.std.specs.List.{AllByRecursion}
use Rattle.span_value.proofs.Lists.{all_push}
use Rattle.span_query.specs.Rows.{Row}
use Rattle.span_query.specs.Sorting.{sorted}
use Rattle.span_merging.specs.declared.parts.PartRest.{PartRest}
use Rattle.span_merging.specs.declared.parts.PartRests.{PartRests}
use Rattle.span_merging.specs.PartPlaces.{joined}
use Rattle.span_merging.specs.PartRanges.{IsRangeOf, rows_of_range, rows_of_ranges}
use Rattle.span_merging.specs.PartRests.{lists_of_rests, rows_of_rests}
use Rattle.span_merging.proofs.PartRanges.{ranges_more, sorted_at_cut}
use Rattle.span_merging.proofs.part_ranges.cut_in_ranges.Goals as goal

pub loop-place-preserved : goal.loop-place-preserved
loop-place-preserved c =
    let keys = c.args.keys.now in
    let exact : Bool = c.args.all.now.are_exact in
    let all : List PartRest = c.args.all.now.rests.items in
    let ranges : List PartRests = c.loop-place.ranges.items in
    let rests : List PartRest = c.loop-place.rests.items in
    let seen : List PartRest = c.as_slice-in-loop-place.result.now in
    let same : seen ≡ rests = search rules in
    let before : List PartRest = c.in_ok-cut.cut.before.items in
    let from : List PartRest = c.in_ok-cut.cut.from.items in
    let range : PartRests = record { rests = c.in_ok-cut.cut.before; are_exact = exact } in
    let rest : List Row = sorted keys (joined (rows_of_rests from)) in
    let items : c.push.new.self.items ≡ ranges ++ range ∷ [] = search rules in
    let cut : sorted keys (joined (rows_of_rests rests)) ≡ rows_of_range keys range ++ rest =
    ap (λ (l : List PartRest). sorted keys (joined (rows_of_rests l))) (sym same) ∙ sorted_at_cut keys exact _ seen before from c.in_ok-cut.ensures.before c.in_ok-cut.ensures.from in
    let listed : lists_of_rests seen ≡ lists_of_rests all = ap lists_of_rests same ∙ c.loop-place.invariant.lists in
    let is : IsRangeOf keys all range = record { lists = c.in_ok-cut.ensures.before.lists ∙ listed; are = c.in_ok-cut.ensures.before.are } in
    record {
      lists = c.in_ok-cut.ensures.from.lists ∙ listed;
      rests = c.in_ok-cut.ensures.from.are;
      ranges = subst (AllByRecursion (IsRangeOf keys all)) (sym items) (all_push (IsRangeOf keys all) ranges range c.loop-place.invariant.ranges is);
      rows = c.loop-place.invariant.rows
          ∙ ap (λ (l : List Row). rows_of_ranges keys ranges ++ l) cut
          ∙ sym (ranges_more keys ranges range rest)
          ∙ ap (λ (l : List PartRests). rows_of_ranges keys l ++ rest) (sym items);
    }
