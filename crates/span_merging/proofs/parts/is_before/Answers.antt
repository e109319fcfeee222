use Rattle.std.proofs.Common.{rules, ◌≡◌, ◌∙◌, [], Some, ap, sym, get_or, List}
use Rattle.std.specs.Prelude.{Option, slice_get}
use Rattle.span_query.specs.Rows.{Row}
use Rattle.span_sorting.specs.declared.placed.CodedPlace.{CodedPlace}
use Rattle.span_merging.specs.PartRests.{front, row_before}
use Rattle.span_merging.proofs.PartRests.{front_is}
use Rattle.span_merging.proofs.parts.is_before.Goals as goal

pub returns : goal.returns
returns c =
    let keys = c.args.keys.now in
    let rows : List Row = c.args.left.now.rows.now in
    let others : List Row = c.args.right.now.rows.now in
    let places : List CodedPlace = c.args.left.now.places.now in
    let other_places : List CodedPlace = c.args.right.now.places.now in
    let p : CodedPlace = c.in-Some.first.now in
    let q : CodedPlace = c.in-Some-first.other.now in
    let first : slice_get places 0 ≡ Some p = search rules in
    let other : slice_get other_places 0 ≡ Some q = search rules in
    let left : front c.args.left.now ≡ Some (get_or rows p.place []) = front_is rows places p first in
    let right : front c.args.right.now ≡ Some (get_or others q.place []) = front_is others other_places q other in
    c.is_place_before.ensures
    ∙ ap (λ (r : Option Row). row_before keys r (Some (get_or others q.place []))) (sym left)
    ∙ ap (row_before keys (front c.args.left.now)) (sym right)
