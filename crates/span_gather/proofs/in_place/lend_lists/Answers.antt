use Rattle.std.proofs.Common.{rules, ◌≡◌, ◌∷◌, ◌++◌, ◌+◌, ◌<◌, ◌≤◌, ◌∙◌, [], List, length, drop, get_or, Some, ap, sym, subst, append_assoc, true}
use Rattle.std.proofs.lemmas.List.{append-nil, drop_all}
use denote.Ref.{Bor}
use Rattle.span_value.proofs.Lists.{drop_read}
use Rattle.span_query.specs.Rows.{Row, Rows, append_results}
use Rattle.span_rows.proofs.Gathering.{gathered_at, one_more}
use Rattle.span_merging.specs.PartPlaces.{joined, lists}
use Rattle.span_algebra.specs.ColumnOrders.{have_width}
use Rattle.span_fragment.specs.declared.piece.Piece.{Piece}
use Rattle.span_gather.specs.Gathered.{joined_pieces}
use Rattle.span_gather.specs.InPlace.{lists_of, rows_or_none}
use Rattle.span_gather.proofs.InPlace.{joined_more, lists_more, wide_more}
use Rattle.span_gather.proofs.in_place.lend_lists.Goals as goal

pub loop-piece-preserved : goal.loop-piece-preserved
loop-piece-preserved c =
    let pieces = c.args.pieces.now in
    let width = c.args.width in
    let i = c.loop-piece.piece-index in
    let x = c.piece-item.result in
    let r = c.in-Some.listed in
    let lent = c.loop-piece.lent.items in
    let left : List Piece = drop (i + 1) pieces in
    let rest : Rows = joined_pieces left in
    let within : i < length pieces = search rules in
    let is : x ≡ get_or pieces i x = search rules in
    let own : x.rows ≡ Some r.now = search rules in
    let wide : have_width width r.now ≡ true = search rules in
    let list : rows_or_none x.rows ≡ r.now = ap rows_or_none own in
    let items = c.in_ok-push.ensures.items in
    let so_far : joined_pieces pieces ≡ append_results (Some (joined (lists lent) ++ r.now)) rest =
    one_more (joined_pieces pieces) (joined_pieces (drop i pieces)) x.rows rest (joined (lists lent)) r.now c.loop-piece.invariant.rows (gathered_at (λ (p : Piece). p.rows) pieces i x within is) own in
    let more = ap (λ (l : List (Bor (List Row))). joined (lists l)) items ∙ joined_more lent r in
    record {
      each = ap (λ (l : List (Bor (List Row))). lists l ++ lists_of left) items
          ∙ ap (λ (l : List (List Row)). l ++ lists_of left) (lists_more lent r)
          ∙ append_assoc (lists lent) (r.now ∷ []) (lists_of left)
          ∙ ap (λ (l : List Row). lists lent ++ l ∷ lists_of left) (sym list)
          ∙ sym (ap (λ (ps : List Piece). lists lent ++ lists_of ps) (drop_read pieces i x within is))
          ∙ c.loop-piece.invariant.each;
      rows = so_far ∙ ap (λ (l : List Row). append_results (Some l) rest) (sym more);
      wide = subst (λ (l : List Row). have_width width l ≡ true) (sym more) (wide_more width (joined (lists lent)) r.now c.loop-piece.invariant.wide wide);
    }

pub returns : goal.returns
returns c =
    let pieces = c.args.pieces.now in
    let i = c.loop-piece.piece-index in
    let lent = c.loop-piece.lent.items in
    let past : length pieces ≤ i = search rules in
    let all : lists lent ≡ lists_of pieces =
    sym (append-nil (lists lent)) ∙ sym (ap (λ (ps : List Piece). lists lent ++ lists_of ps) (drop_all i pieces past)) ∙ c.loop-piece.invariant.each in
    record {
      lists = all;
      rows = c.loop-piece.invariant.rows
          ∙ ap (λ (ps : List Piece). append_results (Some (joined (lists lent))) (joined_pieces ps)) (drop_all i pieces past)
          ∙ ap (λ (l : List Row). Some l) (append-nil (joined (lists lent)))
          ∙ ap (λ (ls : List (List Row)). Some (joined ls)) all;
      wide = subst (λ (ls : List (List Row)). have_width c.args.width (joined ls) ≡ true) all c.loop-piece.invariant.wide;
    }
