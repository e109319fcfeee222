use Rattle.std.proofs.Common.{rules, ◌≡◌, ◌∙◌, ◌∷◌, [], List, Err, Some, ap, get_or, length, subst, sym}
use denote.Ref.{Bor}
use Rattle.std.specs.Prelude.{IfSome, MatchResult}
use Rattle.span_query.specs.Groups.{groups}
use Rattle.span_query.specs.Rows.{Row, Rows}
use Rattle.span_conditions.specs.Answers.{Gives}
use Rattle.span_rows.specs.LentRows.{lent_rows}
use Rattle.span_algebra.specs.GroupAnswers.{AnswersGroups}
use Rattle.span_fragment.specs.declared.piece.Piece.{Piece}
use Rattle.span_gather.specs.Gathered.{gathered, joined_pieces}
use Rattle.span_gather.proofs.InPlace.{one_item}
use Rattle.span_gather.proofs.InThreads.{gathered_groups}
use Rattle.span_gather.proofs.in_threads.groups_in_threads.Goals as goal

pub returns : goal.returns
returns g c =
    let leaves : List (List Piece) = c.args.leaves.now in
    let pieces : List Piece = c.pieces-item.result in
    let top = c.args.top.now in
    let by = c.in-Some.grouping.now in
    let rows : List Row = lent_rows c.as_slice-3.result.now in
    let len : length leaves ≡ 1 = search rules in
    let here : pieces ≡ get_or leaves 0 pieces = search rules in
    let one : leaves ≡ pieces ∷ [] = one_item leaves pieces len here in
    let answers : AnswersGroups top by = search rules in
    let lent : joined_pieces pieces ≡ Some (lent_rows c.in-Some-2.rows.items) = search rules in
    let same : c.as_slice-3.result.now ≡ c.in-Some-2.rows.items = search rules in
    let all : joined_pieces pieces ≡ Some rows = lent ∙ ap (λ (rs : List (Bor Row)). Some (lent_rows rs)) (sym same) in
    let means : gathered leaves top ≡ groups by rows = gathered_groups leaves pieces top by rows one answers all in
    subst (λ (o : Rows). MatchResult c.groups_by_classes.result (λ found. IfSome found (λ made. o ≡ Some made)) (λ why. Gives {A = List Row} (Err why) o)) (sym means) c.groups_by_classes.ensures
