use Rattle.std.proofs.Common.{rules, ◌≡◌, ◌<◌, ◌≤◌, ◌∙◌, ℕ, List, Option, length, get_or, take, ap, sym, refl}
use Rattle.span_query.specs.Rows.{Row}
use Rattle.span_query.specs.Sorting.{comes_before, sorted}
use Rattle.span_sorting.specs.Codes.{coded_rows}
use Rattle.span_sorting.specs.Orders.{take_first}
use Rattle.span_sorting.proofs.FirstOfParts.{first_of_parts}
use Rattle.span_sorting.proofs.RowOrder.{rows_ranked}
use Rattle.span_collected.specs.Parts.{all_rows}
use Rattle.span_collected.proofs.Parting.{rows_more, rows_all}
use Rattle.span_algebra.proofs.source.lend_parts.Goals as goal

pub loop-part-init : goal.loop-part-init
loop-part-init c = record {
  rows = ap (λ (l : List Row). take_first c.args.count (sorted c.args.keys.now l)) c.new-rows.ensures.rows;
  coded = c.new-rows.ensures.coded c.args.keys.now;
}

pub loop-part-preserved : goal.loop-part-preserved
loop-part-preserved c =
    let keys = c.args.keys.now in
    let count : Option ℕ = c.args.count in
    let parts = c.args.parts.now in
    let i = c.loop-part.part-index in
    let x = c.part-item.result in
    let within : i < length parts = search rules in
    let is : x ≡ get_or parts i x = search rules in
    let old : List Row = coded_rows c.loop-part.rows in
    record {
      rows = c.in_ok-lend_in_order.ensures.rows
          ∙ first_of_parts (comes_before keys) (rows_ranked keys) count old (all_rows (take i parts)) x.now x.now c.loop-part.invariant.rows refl
          ∙ ap (λ (l : List Row). take_first count (sorted keys l)) (sym (rows_more parts i x within is));
      coded = c.in_ok-lend_in_order.ensures.coded;
    }

pub returns-clause-rows : goal.returns-clause-rows
returns-clause-rows c =
    let past : length c.args.parts.now ≤ c.loop-part.part-index = search rules in
    c.loop-part.invariant.rows ∙ ap (λ (l : List Row). take_first c.args.count (sorted c.args.keys.now l)) (rows_all c.args.parts.now c.loop-part.part-index past)
