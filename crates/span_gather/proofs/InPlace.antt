-- Rows that are answered where they lie in the pieces of a leaf.
use Rattle.std.proofs.Common.{◌≡◌, ◌∙◌, ℕ, ◌==◌, ◌&&◌, Bool, true, List, [], ◌∷◌, ◌++◌, Some, map, length, get_or, refl, ap, sym, subst}
use denote.Ref.{Bor}
use Rattle.std.specs.List.{AllByRecursion}
use Rattle.std.proofs.lemmas.Grind.{flat_map-append}
use Rattle.std.proofs.lemmas.List.{append-nil, map_push}
use Rattle.std.proofs.lemmas.List.Folds.{list_all-append}
use Rattle.span_query.specs.declared.query.BoundQuery.{BoundQuery}
use Rattle.span_query.specs.Meaning.{given}
use Rattle.span_query.specs.Rows.{Row}
use Rattle.span_query.specs.Sorting.{sorted}
use Rattle.span_merging.specs.declared.parts.PartPlace.{PartPlace}
use Rattle.span_merging.specs.PartPlaces.{AreInOrder, IsPlaceIn, joined, lists, rows_in}
use Rattle.span_algebra.specs.declared.ordered.TableOrder.{TableOrder}
use Rattle.span_algebra.specs.ColumnOrders.{IsTableOrder, have_width}
use Rattle.span_fragment.specs.declared.piece.Piece.{Piece}
use Rattle.span_gather.specs.Gathered.{joined_pieces}
use Rattle.span_gather.specs.InPlace.{AreListsOf, ArePlacesOf, lists_of}

-- ---- one list more

pub lists_more : (lent : List (Bor (List Row))) (r : Bor (List Row)) → lists (lent ++ r ∷ []) ≡ lists lent ++ r.now ∷ []
lists_more lent r = map_push (λ (part : Bor (List Row)). part.now) lent r

pub joined_more : (lent : List (Bor (List Row))) (r : Bor (List Row)) → joined (lists (lent ++ r ∷ [])) ≡ joined (lists lent) ++ r.now
joined_more lent r =
    ap joined (lists_more lent r)
    ∙ flat_map-append (λ (part : List Row). part) (lists lent) (r.now ∷ [])
    ∙ ap (λ (l : List Row). joined (lists lent) ++ l) (append-nil r.now)

pub wide_more : (width : ℕ) (rows more : List Row) → have_width width rows ≡ true → have_width width more ≡ true → have_width width (rows ++ more) ≡ true
wide_more width rows more wide next =
    list_all-append (λ (row : Row). length row == width) rows more
    ∙ ap (λ (b : Bool). b && have_width width more) wide
    ∙ next

-- ---- the places

pub one_item : {X : Type 0} (xs : List X) (x : X) → length xs ≡ 1 → x ≡ get_or xs 0 x → xs ≡ x ∷ []
one_item [] x e is = cc
one_item {X = X} (y ∷ []) x e is = ap (λ (z : X). z ∷ []) (sym is)
one_item (y ∷ z ∷ xs) x e is = cc

placed_in_leaf : (pieces : List Piece) (top : BoundQuery) (order : TableOrder) (lent : List (Bor (List Row))) (places : List PartPlace) → IsTableOrder top order
    → AreListsOf order.width pieces lent → AreInOrder order.keys.items (lists lent) places → ArePlacesOf (pieces ∷ []) top places
placed_in_leaf pieces top order lent places is are turn = record {
  only = refl;
  within = subst (λ (ls : List (List Row)). AllByRecursion (IsPlaceIn ls) places) are.lists turn.within;
  rows = is (given (map joined_pieces (pieces ∷ []))) (joined (lists_of pieces)) are.rows are.wide
      ∙ ap (λ (l : List Row). Some l) (ap (λ (ls : List (List Row)). sorted order.keys.items (joined ls)) (sym are.lists) ∙ sym turn.rows ∙ ap (λ (ls : List (List Row)). rows_in ls places) are.lists);
}

pub placed_of : (leaves : List (List Piece)) (pieces : List Piece) (top : BoundQuery) (order : TableOrder) (lent : List (Bor (List Row))) (places : List PartPlace)
    → leaves ≡ pieces ∷ [] → IsTableOrder top order → AreListsOf order.width pieces lent → AreInOrder order.keys.items (lists lent) places → ArePlacesOf leaves top places
placed_of leaves pieces top order lent places one is are turn =
    subst (λ (ls : List (List Piece)). ArePlacesOf ls top places) (sym one) (placed_in_leaf pieces top order lent places is are turn)
