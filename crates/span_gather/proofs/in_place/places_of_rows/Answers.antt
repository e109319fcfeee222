use Rattle.std.proofs.Common.{rules, ◌≡◌, ◌∷◌, [], List, get_or, length}
use Rattle.span_fragment.specs.declared.piece.Piece.{Piece}
use Rattle.span_merging.specs.PartPlaces.{AreInOrder, lists}
use Rattle.span_algebra.specs.ColumnOrders.{IsTableOrder}
use Rattle.span_gather.specs.InPlace.{AreListsOf}
use Rattle.span_gather.proofs.InPlace.{one_item, placed_of}
use Rattle.span_gather.proofs.in_place.places_of_rows.Goals as goal

pub returns-in-Some-3 : goal.returns-in-Some-3
returns-in-Some-3 g c =
    let leaves : List (List Piece) = c.args.leaves.now in
    let pieces : List Piece = c.pieces-item.result in
    let order = c.in-Some.order in
    let lent = c.in-Some-2.lent.items in
    let places = c.in-Some-3.places.items in
    let len : length leaves ≡ 1 = search rules in
    let here : pieces ≡ get_or leaves 0 pieces = search rules in
    let one : leaves ≡ pieces ∷ [] = one_item leaves pieces len here in
    let is : IsTableOrder c.args.top.now order = search rules in
    let are : AreListsOf order.width pieces lent = search rules in
    let turn : AreInOrder order.keys.items (lists lent) places = search rules in
    placed_of leaves pieces c.args.top.now order lent places one is are turn
