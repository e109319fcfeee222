-- Rows that are answered where they lie in the pieces of a leaf.
use Rattle.std.specs.Prelude.{◌≡◌, ℕ, true, List, [], ◌∷◌, None, Some, map}
use Rattle.std.specs.List.{AllByRecursion}
use denote.Ref.{Bor}
use Rattle.span_query.specs.declared.query.BoundQuery.{BoundQuery}
use Rattle.span_query.specs.Rows.{Row, Rows}
use Rattle.span_merging.specs.declared.parts.PartPlace.{PartPlace}
use Rattle.span_merging.specs.PartPlaces.{IsPlaceIn, joined, lists, rows_in}
use Rattle.span_algebra.specs.ColumnOrders.{have_width}
use Rattle.span_fragment.specs.declared.piece.Piece.{Piece}
use Rattle.span_gather.specs.Gathered.{gathered, joined_pieces}

-- the rows, or none where they are a fault
abbrev pub rows_or_none : Rows → List Row
rows_or_none None = []
rows_or_none (Some rows) = rows

-- the rows of each piece
abbrev pub lists_of : List Piece → List (List Row)
lists_of pieces = map (λ (p : Piece). rows_or_none p.rows) pieces

abbrev pub first_leaf : List (List Piece) → List Piece
first_leaf [] = []
first_leaf (pieces ∷ leaves) = pieces

-- the rows of the pieces, none of which is a fault; each row has the width
pub record AreListsOf (width : ℕ) (pieces : List Piece) (lent : List (Bor (List Row))) : Type 0 where
  pub lists : lists lent ≡ lists_of pieces
  pub rows : joined_pieces pieces ≡ Some (joined (lists_of pieces))
  pub wide : have_width width (joined (lists_of pieces)) ≡ true

-- the places in the pieces of the only leaf of the rows that the query means
pub record ArePlacesOf (leaves : List (List Piece)) (top : BoundQuery) (places : List PartPlace) : Type 0 where
  pub only : leaves ≡ first_leaf leaves ∷ []
  pub within : AllByRecursion (IsPlaceIn (lists_of (first_leaf leaves))) places
  pub rows : gathered leaves top ≡ Some (rows_in (lists_of (first_leaf leaves)) places)
