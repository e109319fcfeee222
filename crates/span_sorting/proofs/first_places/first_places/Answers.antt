use Rattle.std.proofs.Common.{rules, arith, ◌≡◌, ◌∙◌, ◌+◌, ◌-◌, ◌<◌, false, Some, ap, sym, subst, List, ℕ, take, drop}
use Rattle.span_query.specs.Rows.{Row}
use Rattle.span_query.specs.Sorting.{sorted}
use Rattle.span_sorting.specs.declared.placed.PlacedRow.{PlacedRow}
use Rattle.span_sorting.specs.Codes.{uncoded}
use Rattle.span_sorting.specs.PlacesInOrder.{AreFirst, ArePlacesBy, without_places}
use Rattle.span_sorting.proofs.Placing.{are_places, coded_places}
use Rattle.span_sorting.proofs.first_places.first_places.Goals as goal

pub take_row-requires-clause-first : goal.take_row-requires-clause-first
take_row-requires-clause-first c =
    let some : 0 < c.loop-at.at = search rules in
    let next : c.loop-at.at - 1 + 1 ≡ c.loop-at.at = omega (arith, some) in
    subst (λ (n : ℕ). AreFirst c.args.keys.now c.args.count c.args.rows.now n c.loop-at.first.items) (sym next) c.loop-at.invariant.first

pub returns : goal.returns
returns c =
    let keys = c.args.keys.now in
    let rows : List Row = c.args.rows.now in
    let xs : List PlacedRow = c.loop-at.first.items in
    let none : c.loop-at.at ≡ 0 = search rules in
    let first : uncoded (without_places xs) ≡ take c.args.count (sorted keys rows) =
    c.loop-at.invariant.first.first ∙ ap (λ (n : ℕ). take c.args.count (sorted keys (drop n rows))) none in
    let places : c.in_ok-places.places.items ≡ coded_places xs = search rules in
    subst (ArePlacesBy keys (Some c.args.count) rows false) (sym places) (are_places rows keys false (Some c.args.count) xs c.loop-at.invariant.first.placed first)
