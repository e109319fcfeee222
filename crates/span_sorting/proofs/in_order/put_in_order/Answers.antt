use Rattle.std.proofs.Common.{rules, ◌≡◌, ◌∙◌, List, None, ap, subst, sym}
use Rattle.span_query.specs.Rows.{Row}
use Rattle.span_query.specs.Sorting.{sorted}
use Rattle.span_sorting.specs.declared.coded.CodedRow.{CodedRow}
use Rattle.span_sorting.specs.Codes.{uncoded}
use Rattle.span_sorting.specs.PlacesInOrder.{ArePlacesBy, places_from}
use Rattle.span_sorting.proofs.InTurn.{in_turn}
use Rattle.span_sorting.proofs.in_order.put_in_order.Goals as goal

pub returns-clause-places : goal.returns-clause-places
returns-clause-places c =
    let keys = c.args.keys.now in
    let rows : List Row = c.args.rows.now in
    let xs : List CodedRow = c.in_ok-coded.coded.rows.items in
    let exact = c.in_ok-coded.coded.are_exact in
    let is : uncoded xs ≡ sorted keys rows = c.in_ok-coded.ensures.rows ∙ ap (sorted keys) c.in_ok-listed.ensures.rows in
    let copies : c.in_ok-copies.copies ≡ uncoded xs = search rules in
    let places : c.in_ok-places.places.items ≡ places_from 0 xs = search rules in
    subst (λ (r : List Row). ArePlacesBy keys None r exact c.in_ok-places.places.items) (sym copies)
    (subst (ArePlacesBy keys None (uncoded xs) exact) (sym places) (in_turn keys exact xs rows is c.in_ok-coded.ensures.coded))
