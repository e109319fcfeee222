use Rattle.std.proofs.Common.{rules, ◌≡◌, List, sym, ap, ◌∙◌}
use Rattle.span_fragment.specs.declared.piece.Piece.{Piece}
use Rattle.span_gather.specs.Gathered.{gathered}
use Rattle.span_locks.proofs.Refusing.{taken_fault}
use Rattle.span_scans.proofs.question.rows_of.Goals as goal

pub returns-in-Ok-clause-rows : goal.returns-in-Ok-clause-rows
returns-in-Ok-clause-rows g c =
    let same : c.replace-pieces.result ≡ c.args.taken.now.pieces = search rules in
    ap (λ (ps : List (List Piece)). gathered ps c.args.taken.now.top) (sym same) ∙ c.in-Ok.ensures

pub returns-in-Err-clause-refused : goal.returns-in-Err-clause-refused
returns-in-Err-clause-refused g c =
    let same : c.replace-pieces.result ≡ c.args.taken.now.pieces = search rules in
    taken_fault c.args.taken.now c.args.text.now c.args.params.now c.args.s c.in-Err.why _ same (c.is_of.ensures c.if-not-is_of.false) c.in-Err.ensures
