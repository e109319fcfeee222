use Rattle.std.proofs.Common.{rules, ◌≡◌, sym, subst, List, None}
use Rattle.std.specs.List.{AllByRecursion}
use Rattle.span_query.specs.Rows.{Row}
use Rattle.span_query.specs.Sorting.{insertion_sort}
use Rattle.span_sorting.specs.declared.placed.PlacedRow.{PlacedRow}
use Rattle.span_sorting.specs.Codes.{code_before, uncoded}
use Rattle.span_sorting.specs.PlacesInOrder.{ArePlacesBy, IsPlaced, without_places}
use Rattle.span_sorting.proofs.CodedRows.{in_code_order}
use Rattle.span_sorting.proofs.Placing.{coded_places, places_in_order}
use Rattle.span_sorting.proofs.placed.order_places.Goals as goal

pub returns : goal.returns
returns c =
    let keys = c.args.keys.now in
    let rows : List Row = c.args.rows.now in
    let exact = c.in_ok-placed.field-0.are_exact in
    let xs : List PlacedRow = c.in_ok-placed.field-0.rows.items in
    let ys : List PlacedRow = c.sort_by.new.self.items in
    let placed : AllByRecursion (IsPlaced rows keys exact) xs = search rules in
    let whole : uncoded (without_places xs) ≡ rows = search rules in
    let places : c.in_ok-places.places.items ≡ coded_places ys = search rules in
    let order : ys ≡ insertion_sort (λ (x y : PlacedRow). code_before keys exact x.coded y.coded) xs =
    in_code_order keys exact (λ (x : PlacedRow). x.coded) xs ys c.in_ok-sort_by.ensures.sorted c.sort_by.ensures.stable (λ a r q k. search rules) in
    subst (ArePlacesBy keys None rows exact) (sym places) (places_in_order rows keys exact xs ys placed whole order)
