-- A query that answers the groups of all rows of the only leaf, by the rows of its pieces.
use Rattle.std.proofs.Common.{◌≡◌, ◌∙◌, List, [], ◌∷◌, Some, map, ap}
use Rattle.span_query.specs.declared.query.BoundQuery.{BoundQuery}
use Rattle.span_query.specs.declared.query.BoundQuery.TheViews.{out-BoundQuery}
use Rattle.span_query.specs.declared.query.Grouping.{Grouping}
use Rattle.span_query.specs.Groups.{groups}
use Rattle.span_query.specs.Meaning.{given}
use Rattle.span_query.specs.Rows.{Row, Rows, ◌>>=◌}
use Rattle.span_algebra.specs.GroupAnswers.{AnswersGroups}
use Rattle.span_algebra.specs.GroupQueries.{GroupsFirstTable, rows_of_groups}
use Rattle.span_fragment.specs.declared.piece.Piece.{Piece}
use Rattle.span_gather.specs.Gathered.{gathered, joined_pieces}

pub gathered_groups : (leaves : List (List Piece)) (pieces : List Piece) (top : BoundQuery) (g : Grouping) (rows : List Row) → leaves ≡ pieces ∷ [] → AnswersGroups top g
    → joined_pieces pieces ≡ Some rows → gathered leaves top ≡ groups g rows
gathered_groups leaves pieces top g rows one answers all =
    ap (λ (ls : List (List Piece)). gathered ls top) one ∙ answers (given (map joined_pieces (pieces ∷ []))) rows all

-- the same of a query that makes something of the groups of these rows
pub gathered_by_groups : (leaves : List (List Piece)) (pieces : List Piece) (top : BoundQuery) (g : Grouping) (rows : List Row) → leaves ≡ pieces ∷ [] → GroupsFirstTable top g
    → joined_pieces pieces ≡ Some rows → gathered leaves top ≡ (groups g rows >>= rows_of_groups (out-BoundQuery top) g)
gathered_by_groups leaves pieces top g rows one first all =
    ap (λ (ls : List (List Piece)). gathered ls top) one
    ∙ first (given (map joined_pieces (pieces ∷ [])))
    ∙ ap (λ (o : Rows). o >>= groups g >>= rows_of_groups (out-BoundQuery top) g) all
