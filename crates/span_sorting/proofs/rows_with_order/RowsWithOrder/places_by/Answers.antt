use Rattle.std.proofs.Common.{rules, ◌≡◌, sym, subst, List, None}
use Rattle.span_query.specs.Rows.{Row}
use Rattle.span_query.specs.declared.query.SortKey.{SortKey}
use Rattle.span_sorting.specs.declared.placed.CodedPlace.{CodedPlace}
use Rattle.span_sorting.specs.PlacesInOrder.{ArePlacesBy}
use Rattle.span_sorting.proofs.rows_with_order.RowsWithOrder.places_by.Goals as goal

pub returns-then-are_same_keys : goal.returns-then-are_same_keys
returns-then-are_same_keys c =
    let rows : List Row = c.args.self.now in
    let keys : List SortKey = c.args.keys.now in
    let order = c.in-Some.order in
    let all : List CodedPlace = order.found.places.items in
    let exact = order.found.are_exact in
    let is : ArePlacesBy order.keys.items None rows exact all = search rules in
    let same : keys ≡ order.keys.items = search rules in
    let places : c.as_slice-then-are_same_keys.result.now ≡ all = search rules in
    subst (ArePlacesBy keys None rows exact) (sym places) (subst (λ (ks : List SortKey). ArePlacesBy ks None rows exact all) (sym same) is)
