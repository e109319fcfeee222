use Rattle.std.proofs.Common.{rules, ◌≡◌, ◌+◌, ◌<◌, ◌≤◌, ◌∙◌, List, length, drop, get_or, Some, ap, sym}
use Rattle.std.proofs.lemmas.List.{append-nil, drop_all}
use Rattle.span_query.specs.Rows.{Row, Rows, append_results}
use Rattle.span_rows.specs.LentRows.{lent_rows}
use Rattle.span_rows.proofs.Gathering.{gathered_at, one_more}
use Rattle.span_fragment.specs.declared.piece.Piece.{Piece}
use Rattle.span_gather.specs.Gathered.{joined_pieces}
use Rattle.span_gather.proofs.in_threads.lend_pieces.Goals as goal

pub loop-piece-preserved : goal.loop-piece-preserved
loop-piece-preserved c =
    let pieces = c.args.pieces.now in
    let i = c.loop-piece.piece-index in
    let x = c.piece-item.result in
    let r = c.in-Some.rows in
    let lent : List Row = lent_rows c.loop-piece.lent.items in
    let rest : Rows = joined_pieces (drop (i + 1) pieces) in
    let within : i < length pieces = search rules in
    let is : x ≡ get_or pieces i x = search rules in
    let own : x.rows ≡ Some r.now = search rules in
    one_more (joined_pieces pieces) (joined_pieces (drop i pieces)) x.rows rest lent r.now c.loop-piece.invariant (gathered_at (λ (p : Piece). p.rows) pieces i x within is) own
    ∙ ap (λ (l : List Row). append_results (Some l) rest) (sym c.in_ok-lend_rows.ensures)

pub returns : goal.returns
returns c =
    let pieces = c.args.pieces.now in
    let i = c.loop-piece.piece-index in
    let lent : List Row = lent_rows c.loop-piece.lent.items in
    let past : length pieces ≤ i = search rules in
    c.loop-piece.invariant
    ∙ ap (λ (ps : List Piece). append_results (Some lent) (joined_pieces ps)) (drop_all i pieces past)
    ∙ ap (λ (l : List Row). Some l) (append-nil lent)
