use Rattle.std.proofs.Common.{rules, ◌≡◌, ◌∷◌, ◌++◌, ◌+◌, ◌<◌, ◌≤◌, ◌∙◌, [], List, length, drop, get_or, Some, None, ap, sym}
use Rattle.std.proofs.lemmas.List.{append-nil, drop_all}
use Rattle.std.proofs.lemmas.Grind.{flat_map-append}
use denote.Ref.{Bor}
use Rattle.span_query.specs.Rows.{Row, Rows, append_results}
use Rattle.span_collected.specs.Parts.{all_rows}
use Rattle.span_rows.proofs.Gathering.{gathered_at, one_more}
use Rattle.span_fragment.specs.declared.piece.Piece.{Piece}
use Rattle.span_gather.specs.Gathered.{joined_pieces}
use Rattle.span_gather.proofs.lent_parts.lent_parts.Goals as goal

pub returns-in_default : goal.returns-in_default
returns-in_default c =
    let pieces = c.args.pieces.now in
    let i = c.loop-piece.piece-index in
    let x = c.piece-item.result in
    let lent = c.loop-piece.parts.items in
    let rest : Rows = joined_pieces (drop (i + 1) pieces) in
    let within : i < length pieces = search rules in
    let is : x ≡ get_or pieces i x = search rules in
    let none : x.rows ≡ None = search rules in
    c.loop-piece.invariant
    ∙ ap (append_results (Some (all_rows lent))) (gathered_at (λ (p : Piece). p.rows) pieces i x within is ∙ ap (λ (o : Rows). append_results o rest) none)

pub loop-piece-preserved : goal.loop-piece-preserved
loop-piece-preserved c =
    let pieces = c.args.pieces.now in
    let i = c.loop-piece.piece-index in
    let x = c.piece-item.result in
    let r = c.in-Some.rows in
    let lent = c.loop-piece.parts.items in
    let rest : Rows = joined_pieces (drop (i + 1) pieces) in
    let within : i < length pieces = search rules in
    let is : x ≡ get_or pieces i x = search rules in
    let own : x.rows ≡ Some r.now = search rules in
    let more : all_rows (lent ++ r ∷ []) ≡ all_rows lent ++ r.now = flat_map-append (λ (part : Bor (List Row)). part.now) lent (r ∷ []) ∙ ap (λ (l : List Row). all_rows lent ++ l) (append-nil r.now) in
    let so_far : joined_pieces pieces ≡ append_results (Some (all_rows lent ++ r.now)) rest =
    one_more (joined_pieces pieces) (joined_pieces (drop i pieces)) x.rows rest (all_rows lent) r.now c.loop-piece.invariant (gathered_at (λ (p : Piece). p.rows) pieces i x within is) own in
    so_far ∙ ap (λ (l : List Row). append_results (Some l) rest) (sym (ap all_rows c.in_ok-push.ensures.items ∙ more))

pub returns : goal.returns
returns c =
    let pieces = c.args.pieces.now in
    let past : length pieces ≤ c.loop-piece.piece-index = search rules in
    let lent = c.loop-piece.parts.items in
    c.loop-piece.invariant
    ∙ ap (λ (ps : List Piece). append_results (Some (all_rows lent)) (joined_pieces ps)) (drop_all c.loop-piece.piece-index pieces past)
    ∙ ap (λ (l : List Row). Some l) (append-nil (all_rows lent))
