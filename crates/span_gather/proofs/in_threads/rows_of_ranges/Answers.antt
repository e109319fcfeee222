use Rattle.std.proofs.Common.{rules, ◌≡◌, ◌∷◌, [], List, Err, Some, get_or, length, subst, sym}
use Rattle.span_query.specs.declared.query.BoundQuery.TheViews.{out-BoundQuery}
use Rattle.span_query.specs.Groups.{groups}
use Rattle.span_query.specs.Rows.{Row, Rows, ◌>>=◌}
use Rattle.span_conditions.specs.Answers.{Gives}
use Rattle.span_rows.proofs.Gathering.{then_fails}
use Rattle.span_collected.specs.Parts.{all_rows}
use Rattle.span_algebra.specs.GroupQueries.{GroupsFirstTable, rows_of_groups}
use Rattle.span_fragment.specs.declared.piece.Piece.{Piece}
use Rattle.span_gather.specs.Gathered.{gathered, joined_pieces}
use Rattle.span_gather.proofs.InPlace.{one_item}
use Rattle.span_gather.proofs.InThreads.{gathered_by_groups}
use Rattle.span_gather.proofs.in_threads.rows_of_ranges.Goals as goal

pub returns-in_err-groups : goal.returns-in_err-groups
returns-in_err-groups g c =
    let leaves : List (List Piece) = c.args.leaves.now in
    let pieces : List Piece = c.pieces-item.result in
    let top = c.args.top.now in
    let by = c.in-Some.grouping.now in
    let rows : List Row = all_rows c.in-Some-2.parts.items in
    let len : length leaves ≡ 1 = search rules in
    let here : pieces ≡ get_or leaves 0 pieces = search rules in
    let one : leaves ≡ pieces ∷ [] = one_item leaves pieces len here in
    let first : GroupsFirstTable top by = search rules in
    let all : joined_pieces pieces ≡ Some rows = search rules in
    let means : gathered leaves top ≡ (groups by rows >>= rows_of_groups (out-BoundQuery top) by) = gathered_by_groups leaves pieces top by rows one first all in
    let why = c.in_err-groups.field-0.0 in
    let gives : Gives {A = List Row} (Err why) (groups by rows) = search rules in
    let fails : Gives {A = List Row} (Err why) (gathered leaves top) = subst (λ (o : Rows). Gives {A = List Row} (Err why) o) (sym means) (then_fails why (groups by rows) (rows_of_groups (out-BoundQuery top) by) gives) in
    search (rules, fails)
