use Rattle.std.proofs.Common.{rules, ◌≡◌, ◌++◌, ◌<◌, ◌≤◌, ◌∙◌, List, length, get_or, ap, sym}
use Rattle.span_query.specs.Rows.{Row}
use Rattle.span_collected.proofs.Parting.{rows_more, rows_all}
use Rattle.span_algebra.proofs.source.join_parts.Goals as goal

pub loop-part-preserved : goal.loop-part-preserved
loop-part-preserved c =
    let parts = c.args.parts.now in
    let i = c.loop-part.part-index in
    let x = c.part-item.result in
    let within : i < length parts = search rules in
    let is : x ≡ get_or parts i x = search rules in
    let part : c.in_ok-rows_of_part.field-0.now ≡ x.now = search (rules, c.in_ok-rows_of_part.ensures) in
    c.in_ok-add_copies.ensures
    ∙ ap (λ (l : List Row). c.loop-part.rows ++ l) part
    ∙ ap (λ (l : List Row). l ++ x.now) c.loop-part.invariant
    ∙ sym (rows_more parts i x within is)

pub returns : goal.returns
returns c =
    let past : length c.args.parts.now ≤ c.loop-part.part-index = search rules in
    c.loop-part.invariant ∙ rows_all c.args.parts.now c.loop-part.part-index past
